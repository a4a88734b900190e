-- `darray::pending::Pending::overflows` meets its contract.
-- Assumes nothing.
use Rattle.darray.specs.Pending.{block_wide}
use Rattle.darray.proofs.pending.Pending.overflows.Goals as goal

pub returns : goal.returns
unfolding block_wide
returns c = c.is_wide.ensures
