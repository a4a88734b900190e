-- `broadword::leq_step_8` meets its contract.
-- Assumes nothing.
use Rattle.broadword.proofs.Compare as compare
use Rattle.broadword.proofs.leq_step_8.Goals as goal

pub overflow_sub-result : goal.overflow_sub-result
overflow_sub-result c = compare.no_borrow c.args.x c.args.y c.ranges.x.fits c.ranges.y.fits c.requires.0 c.requires.1

pub returns : goal.returns
returns c = compare.leq c.args.x c.args.y c.ranges.x.fits c.ranges.y.fits c.requires.0 c.requires.1
