-- `prefix_summed_elias_fano::walk::next_item` meets its contract. Assumes nothing.
use Rattle.prefix_summed_elias_fano.proofs.Taking as taking
use Rattle.prefix_summed_elias_fano.proofs.walk.next_item.Goals as goal

pub returns-then-w-p : goal.returns-then-w-p
returns-then-w-p c = (c.requires, taking.stepped_none c.args.image.now c.args.p c.args.w c.requires c.if-w-p.true)

pub returns : goal.returns
returns c = let t = c.take_item-t.ensures in (t.0, taking.stepped_some c.args.image.now c.args.p c.args.w c.requires _ _ c.if-w-p.false t.1 t.2)
