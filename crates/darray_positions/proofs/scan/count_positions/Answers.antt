-- `darray_positions::scan::count_positions` meets its contract.
-- Assumes nothing.
use Rattle.std.proofs.Common.{arith}
use Rattle.broadword.specs.Bits.{count}
use Rattle.darray_positions.proofs.Counts.{count_few}
use Rattle.darray_positions.proofs.scan.count_positions.Goals as goal

pub overflow_add-result : goal.overflow_add-result
unfolding count
overflow_add-result c = omega (arith, count_few c.args.over_one c.args.words.now c.args.len)

pub returns : goal.returns
unfolding count
returns c = omega arith
