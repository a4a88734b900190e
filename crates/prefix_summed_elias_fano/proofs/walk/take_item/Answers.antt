-- `prefix_summed_elias_fano::walk::take_item` meets its contract. Assumes nothing.
use Rattle.prefix_summed_elias_fano.proofs.Taking as taking
use Rattle.prefix_summed_elias_fano.proofs.walk.take_item.Goals as goal

pub take-t-requires : goal.take-t-requires
take-t-requires c = let a = c.requires.0.ahead c.requires.1 in (a.walk, c.requires.1)

pub overflow_sub-result : goal.overflow_sub-result
overflow_sub-result c = taking.fits c.args.image.now c.args.p c.args.w c.requires.0 c.requires.1 _ c.take-t.ensures.2

pub returns : goal.returns
returns c = let t = c.take-t.ensures in (taking.goes_on c.args.image.now c.args.p c.args.w c.requires.0 c.requires.1 _ t.2 _ t.0 t.1, t.1, taking.item_is c.args.image.now c.args.p c.args.w c.requires.0 c.requires.1 _ t.2)

pub invariant_of-opened : goal.invariant_of-opened
invariant_of-opened c = let a = c.requires.0.ahead c.requires.1 in record { ok = a.ok; right = a.parts }
