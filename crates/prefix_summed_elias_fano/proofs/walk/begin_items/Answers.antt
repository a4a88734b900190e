-- `prefix_summed_elias_fano::walk::begin_items` meets its contract. Assumes nothing.
use Rattle.prefix_summed_elias_fano.proofs.Taking as taking
use Rattle.prefix_summed_elias_fano.proofs.walk.begin_items.Goals as goal

pub returns : goal.returns
returns c = (taking.over-accepted c.args.image.now.words.now c.args.image.now.ok c.args.image.now.parts c.args.image.now.right c.args.k _ _ c.begin.ensures.0 c.begin.ensures.1 c.sum_before.ensures, c.begin.ensures.1, c.args.image.now.right)
