-- `prefix_summed_elias_fano::walk::take_items` meets its contract. The invariant: `i` items are written. The measure: how many are left. Assumes nothing.
use native.Mathlib.Omega.{arith}
use Rattle.prefix_summed_elias_fano.proofs.Taking as taking
use Rattle.prefix_summed_elias_fano.proofs.walk.take_items.Goals as goal

pub loop-i-init : goal.loop-i-init
loop-i-init c = taking.none_written c.args.image.now c.args.p _ c.args.count c.args.from c.requires.0

pub take_item-t-requires : goal.take_item-t-requires
take_item-t-requires c = let l = c.loop-i in (l.invariant.over, taking.one_left c.args.image.now c.args.p _ _ c.args.count c.requires.1 c.requires.2 l.out l.w l.i l.invariant c.loop-i-test.true)

pub bounds-out-i : goal.bounds-out-i
bounds-out-i c = let e = c.loop-i.invariant.long in let r = c.requires.2 in omega (arith, c.loop-i-test.true)

pub loop-i-preserved : goal.loop-i-preserved
loop-i-preserved c = let l = c.loop-i in let t = c.take_item-t.ensures in taking.one_written c.args.image.now c.args.p _ _ c.args.count c.requires.1 c.requires.2 l.out l.w l.i l.invariant c.loop-i-test.true _ _ t.0 t.1 t.2

pub shape_of-out : goal.shape_of-out
shape_of-out c = c.loop-i.invariant.long

pub returns : goal.returns
returns c = let l = c.loop-i in taking.all_written c.args.image.now c.args.p _ _ c.args.count l.out l.w l.i l.invariant c.loop-i-test.false
