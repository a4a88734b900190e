-- `elias_fano::image::open` meets its contract.
-- Assumes nothing.
use Rattle.elias_fano.specs.Accept.{open_of}
use Rattle.elias_fano.proofs.image.open.Goals as goal

pub returns : goal.returns
unfolding open_of
returns c = c.open_if.ensures
