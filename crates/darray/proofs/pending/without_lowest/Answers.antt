-- `darray::pending::without_lowest` meets its contract.
-- Assumes nothing.
use Rattle.darray.proofs.Clear.{select-clear}
use Rattle.darray.proofs.pending.without_lowest.Goals as goal

pub returns : goal.returns
returns c = select-clear c.args.w c.requires c.ranges.w.fits
