-- `darray_positions::scan::find` meets its contract.
-- Assumes nothing.
use Rattle.darray_positions.proofs.Counts.{ranging}
use Rattle.darray_positions.proofs.scan.find.Goals as goal

pub leap-near-requires : goal.leap-near-requires
leap-near-requires c =
    (c.requires.0, ranging c.args.over_one c.args.words.now c.args.k c.requires.1 c.args.from c.requires.0)
