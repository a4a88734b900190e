-- `elias_fano::finish::write_image` meets its contract.
-- Assumes nothing.
use mathlib.Core.Bool.{true, false}
use native.Mathlib.Omega.{arith}
use Rattle.elias_fano.proofs.Finished as finished
use Rattle.elias_fano.proofs.finish.write_image.Goals as goal

pub overflow_mul-m : goal.overflow_mul-m
overflow_mul-m c =
    let a = c.args in
    let f = c.requires in
    finished.product_fits a.b a.buffer.now f.holding (omega (arith, c.well_formed.1.0)) a.s f.sizes

pub overflow_add-ones_at : goal.overflow_add-ones_at
overflow_add-ones_at c =
    let a = c.args in
    let f = c.requires in
    record { fits = omega (arith, finished.ones_at_small a.b a.buffer.now f.holding (omega (arith, c.well_formed.1.0)) a.s f.sizes _ c.words_for.ensures) }

pub write_within-ones-requires : goal.write_within-ones-requires
write_within-ones-requires c =
    let a = c.args in
    let f = c.requires in
    finished.first_writable a.b a.buffer.now f.holding a.rank f.room (omega (arith, c.well_formed.1.0)) _ _ (finished.high_len_is a.b a.buffer.now f.holding (omega (arith, c.well_formed.1.0)) a.s f.sizes) (finished.ones_at_is a.b a.buffer.now f.holding (omega (arith, c.well_formed.1.0)) a.s f.sizes _ c.words_for.ensures)

pub index_len-requires : goal.index_len-requires
index_len-requires c =
    let a = c.args in
    let f = c.requires in
    (finished.pushed_small a.b a.buffer.now f.holding (omega (arith, c.well_formed.1.0)) a.s f.sizes, omega (arith, finished.over_small a.b a.buffer.now f.holding (omega (arith, c.well_formed.1.0)) a.s f.sizes true _ _ c.write_within-ones.ensures.1))

pub overflow_add-zeros_at : goal.overflow_add-zeros_at
overflow_add-zeros_at c =
    let a = c.args in
    let f = c.requires in
    record {
      fits = omega (arith, finished.ones_at_small a.b a.buffer.now f.holding (omega (arith, c.well_formed.1.0)) a.s f.sizes _ c.words_for.ensures, finished.over_small a.b a.buffer.now f.holding (omega (arith, c.well_formed.1.0)) a.s f.sizes true _ _ c.write_within-ones.ensures.1, finished.pushed_small a.b a.buffer.now f.holding (omega (arith, c.well_formed.1.0)) a.s f.sizes, c.index_len.ensures);
    }

pub overflow_sub-len : goal.overflow_sub-len
overflow_sub-len c =
    let a = c.args in
    let f = c.requires in
    finished.pushed_le a.b a.buffer.now f.holding (omega (arith, c.well_formed.1.0)) a.s f.sizes

pub write_zeros-zeros-requires : goal.write_zeros-zeros-requires
write_zeros-zeros-requires c =
    let a = c.args in
    let f = c.requires in
    finished.second_writable a.b a.buffer.now f.holding a.rank f.room (omega (arith, c.well_formed.1.0)) _ _ (finished.high_len_is a.b a.buffer.now f.holding (omega (arith, c.well_formed.1.0)) a.s f.sizes) (finished.ones_at_is a.b a.buffer.now f.holding (omega (arith, c.well_formed.1.0)) a.s f.sizes _ c.words_for.ensures) _ c.write_within-ones.ensures.0 _
    (finished.zeros_at_is a.b a.buffer.now f.holding (omega (arith, c.well_formed.1.0)) a.s f.sizes _ _ _ c.words_for.ensures c.write_within-ones.ensures.1 c.index_len.ensures)

pub write_header-requires : goal.write_header-requires
write_header-requires c =
    let a = c.args in
    let f = c.requires in
    finished.six_2 a.b a.buffer.now f.holding a.rank f.room (omega (arith, c.well_formed.1.0)) _ _ (finished.high_len_is a.b a.buffer.now f.holding (omega (arith, c.well_formed.1.0)) a.s f.sizes) (finished.ones_at_is a.b a.buffer.now f.holding (omega (arith, c.well_formed.1.0)) a.s f.sizes _ c.words_for.ensures) _ c.write_within-ones.ensures.0 _
    (finished.zeros_at_is a.b a.buffer.now f.holding (omega (arith, c.well_formed.1.0)) a.s f.sizes _ _ _ c.words_for.ensures c.write_within-ones.ensures.1 c.index_len.ensures) _ c.write_zeros-zeros.ensures.0

pub image_len-requires : goal.image_len-requires
image_len-requires c =
    let a = c.args in
    let f = c.requires in
    finished.len_ready a.b a.buffer.now f.holding (omega (arith, c.well_formed.1.0)) a.s f.sizes _ _
    (finished.over_small a.b a.buffer.now f.holding (omega (arith, c.well_formed.1.0)) a.s f.sizes true _ _ c.write_within-ones.ensures.1)
    (finished.over_small_if a.b a.buffer.now f.holding (omega (arith, c.well_formed.1.0)) a.s f.sizes false a.rank _ _ c.write_zeros-zeros.ensures.1)

pub returns : goal.returns
returns c =
    let a = c.args in
    let f = c.requires in
    let o = c.write_within-ones.ensures in
    let z = c.write_zeros-zeros.ensures in
    let e = finished.zeros_at_is a.b a.buffer.now f.holding (omega (arith, c.well_formed.1.0)) a.s f.sizes _ _ _ c.words_for.ensures o.1 c.index_len.ensures in (
      finished.image_written a.b a.buffer.now f.holding a.rank f.room (omega (arith, c.well_formed.1.0)) _ _ (finished.high_len_is a.b a.buffer.now f.holding (omega (arith, c.well_formed.1.0)) a.s f.sizes) (finished.ones_at_is a.b a.buffer.now f.holding (omega (arith, c.well_formed.1.0)) a.s f.sizes _ c.words_for.ensures) _ o.0 _ e _ z.0 _ _ o.1 z.1 _ c.write_header.ensures,
      finished.length_written a.b a.buffer.now f.holding a.rank f.room (omega (arith, c.well_formed.1.0)) _ _ (finished.high_len_is a.b a.buffer.now f.holding (omega (arith, c.well_formed.1.0)) a.s f.sizes) (finished.ones_at_is a.b a.buffer.now f.holding (omega (arith, c.well_formed.1.0)) a.s f.sizes _ c.words_for.ensures) _ o.0 _ e _ z.0 _ _ o.1 z.1 _ (c.image_len.ensures a.b.universe a.b.num_vals f.sizes),
    )
