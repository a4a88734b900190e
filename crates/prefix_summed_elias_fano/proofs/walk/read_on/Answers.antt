-- `prefix_summed_elias_fano::walk::read_on` meets its contract. Assumes nothing.
use Rattle.prefix_summed_elias_fano.proofs.Taking as taking
use Rattle.prefix_summed_elias_fano.proofs.walk.read_on.Goals as goal

pub returns : goal.returns
returns c = let n = c.how_many-count in (taking.read_many c.args.image.now c.args.c.parts c.args.c.walk c.requires n.result c.args.out.now n.ensures, taking.read_fills c.args.image.now c.args.c.parts c.args.c.walk c.requires n.result c.args.out.now n.ensures _ c.take_items.ensures)
