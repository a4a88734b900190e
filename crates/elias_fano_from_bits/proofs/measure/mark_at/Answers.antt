-- `elias_fano_from_bits::measure::mark_at` meets its contract.
-- Assumes nothing.
use mathlib.Core.Bool.{true}
use Prim.Native.Nat.{◌*◌, ◌/◌}
use native.Mathlib.Omega.{arith}
use Rattle.darray_positions.proofs.Counts as counts
use Rattle.elias_fano_from_bits.proofs.Marks as marks
use Rattle.elias_fano_from_bits.proofs.measure.mark_at.Goals as goal

pub overflow_add-result : goal.overflow_add-result
overflow_add-result c =
    let e = marks.whole_is c.args.words.now c.args.len c.args.from c.requires.0 c.args.to c.requires.2 c.requires.3 _ c.tail_positions.ensures _ c.count_words-whole.ensures in
    omega (arith, counts.count_few true c.args.words.now (c.args.to / 64 * 64), c.ranges.to)

pub overflow_add-result-2 : goal.overflow_add-result-2
overflow_add-result-2 c =
    let e = marks.mark_is c.args.words.now c.args.len c.args.from c.requires.0 c.args.to c.requires.2 c.requires.3 _ c.tail_positions.ensures _ c.count_words-whole.ensures _ c.tail_positions-2.ensures in
    omega (arith, counts.count_few true c.args.words.now c.args.to, c.ranges.to)
