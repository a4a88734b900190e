-- `elias_fano::finish::measured_len` meets its contract.
-- Assumes nothing.
use mathlib.Core.Bool.{true, false}
use native.Mathlib.Omega.{arith}
use Rattle.elias_fano.proofs.Finished as finished
use Rattle.elias_fano.proofs.finish.measured_len.Goals as goal

pub slice_bounds-overflow_over-count : goal.slice_bounds-overflow_over-count
slice_bounds-overflow_over-count c = let a = c.args in finished.six_le a.b a.words.now c.requires.0 (omega (arith, c.well_formed.1.0)) a.s c.requires.1

pub slice_bounds-overflow_over-start : goal.slice_bounds-overflow_over-start
slice_bounds-overflow_over-start c = let a = c.args in finished.six_le a.b a.words.now c.requires.0 (omega (arith, c.well_formed.1.0)) a.s c.requires.1

pub slice_bounds-overflow_over-end : goal.slice_bounds-overflow_over-end
slice_bounds-overflow_over-end c = let a = c.args in finished.low_at_le a.b a.words.now c.requires.0 (omega (arith, c.well_formed.1.0)) a.s c.requires.1

pub overflow_over-ones-requires : goal.overflow_over-ones-requires
overflow_over-ones-requires c = let a = c.args in finished.measure_ready a.b a.words.now c.requires.0 (omega (arith, c.well_formed.1.0)) a.s c.requires.1

pub slice_bounds-zeros_overflow-count : goal.slice_bounds-zeros_overflow-count
slice_bounds-zeros_overflow-count c = let a = c.args in finished.six_le a.b a.words.now c.requires.0 (omega (arith, c.well_formed.1.0)) a.s c.requires.1

pub slice_bounds-zeros_overflow-start : goal.slice_bounds-zeros_overflow-start
slice_bounds-zeros_overflow-start c = let a = c.args in finished.six_le a.b a.words.now c.requires.0 (omega (arith, c.well_formed.1.0)) a.s c.requires.1

pub slice_bounds-zeros_overflow-end : goal.slice_bounds-zeros_overflow-end
slice_bounds-zeros_overflow-end c = let a = c.args in finished.low_at_le a.b a.words.now c.requires.0 (omega (arith, c.well_formed.1.0)) a.s c.requires.1

pub zeros_overflow-zeros-requires : goal.zeros_overflow-zeros-requires
zeros_overflow-zeros-requires c = let a = c.args in finished.measure_ready a.b a.words.now c.requires.0 (omega (arith, c.well_formed.1.0)) a.s c.requires.1

pub image_len-requires : goal.image_len-requires
image_len-requires c =
    let a = c.args in
    finished.len_ready a.b a.words.now c.requires.0 (omega (arith, c.well_formed.1.0)) a.s c.requires.1 _ _
    (finished.over_small a.b a.words.now c.requires.0 (omega (arith, c.well_formed.1.0)) a.s c.requires.1 true _ _ c.overflow_over-ones.ensures)
    (finished.over_small_if a.b a.words.now c.requires.0 (omega (arith, c.well_formed.1.0)) a.s c.requires.1 false a.rank _ _ c.zeros_overflow-zeros.ensures)

pub returns : goal.returns
returns c =
    let a = c.args in
    finished.measured_is a.b a.words.now c.requires.0 (omega (arith, c.well_formed.1.0)) a.s c.requires.1 a.rank _ _ _ c.overflow_over-ones.ensures c.zeros_overflow-zeros.ensures (c.image_len.ensures a.b.universe a.b.num_vals c.requires.1)
