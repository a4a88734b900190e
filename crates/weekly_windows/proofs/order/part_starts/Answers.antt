-- `weekly_windows::order::part_starts` meets its contract. Assumes nothing.
use Rattle.weekly_windows.proofs.Cutting as cutting
use Rattle.weekly_windows.proofs.order.part_starts.Goals as goal

pub loop-q-init : goal.loop-q-init
loop-q-init c = cutting.none_started _ _ _ c.requires.1

pub loop-q-preserved : goal.loop-q-preserved
loop-q-preserved c = let l = c.loop-q in cutting.one_started _ _ _ _ _ l.invariant c.loop-q-test.true _ c.cuts_upto-k.ensures

pub returns : goal.returns
returns c = let l = c.loop-q in cutting.all_started _ _ _ _ _ l.invariant c.loop-q-test.false
