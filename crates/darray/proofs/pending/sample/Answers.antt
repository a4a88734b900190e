-- `darray::pending::sample` meets its contract.
-- Assumes nothing.
use Rattle.std.proofs.Common.{arith}
use Rattle.darray_positions.proofs.Counts as counts
use Rattle.darray.proofs.pending.sample.Goals as goal

pub overflow_add-k : goal.overflow_add-k
overflow_add-k c =
    let p = c.requires.4 in
    omega (arith, p.there, p.few, counts.count_few c.args.over_one c.args.words.now p.bits)

pub overflow_add-k-2 : goal.overflow_add-k-2
overflow_add-k-2 c =
    let p = c.requires.4 in
    omega (arith, p.there, p.few, counts.count_few c.args.over_one c.args.words.now p.bits)
