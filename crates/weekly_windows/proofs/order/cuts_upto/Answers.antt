-- `weekly_windows::order::cuts_upto` meets its contract. The invariant: the cuts before `k` are at or below `r`. The measure: how many are left.
-- Assumes nothing.
use native.Mathlib.Omega.{arith}
use Rattle.weekly_windows.proofs.Cutting as cutting
use Rattle.weekly_windows.proofs.order.cuts_upto.Goals as goal

pub returns : goal.returns
returns c = let l = c.loop-k in cutting.cuts_end c.args.cuts.now c.args.n c.args.r c.requires.0 c.requires.1 l.k l.invariant.0 l.invariant.1 (omega (arith, c.loop-k-test.false))
