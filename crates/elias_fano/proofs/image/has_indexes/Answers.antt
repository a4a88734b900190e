-- `elias_fano::image::has_indexes` meets its contract.
-- Assumes nothing.
use borrow.Author.Tests.{not-true, not-false}
use mathlib.Core.Path.{refl, sym, ap, ◌∙◌}
use native.Mathlib.Omega.{arith}
use Rattle.elias_fano.specs.declared.image.Parts.{Parts}
use Rattle.elias_fano.specs.Accept.{parts_by}
use Rattle.elias_fano.proofs.Indexing as indexing
use Rattle.elias_fano.proofs.Standing as standing
use Rattle.elias_fano.proofs.image.has_indexes.Goals as goal

pub slice_bounds-high-count : goal.slice_bounds-high-count
slice_bounds-high-count c = standing.six_low _ _ c.requires.0 c.requires.1

pub slice_bounds-high-start : goal.slice_bounds-high-start
slice_bounds-high-start c = standing.six_low _ _ c.requires.0 c.requires.1

pub slice_bounds-high-end : goal.slice_bounds-high-end
slice_bounds-high-end c = standing.low_end _ _ c.requires.0 c.requires.1

pub offset_bounds-image-ones_at : goal.offset_bounds-image-ones_at
offset_bounds-image-ones_at c = let e = standing.ones_end _ _ c.requires.0 c.requires.1 in record { fits = omega (arith, c.well_formed) }

pub slice_bounds-is_index-count : goal.slice_bounds-is_index-count
slice_bounds-is_index-count c = standing.ones-zeros _ _ c.requires.0 c.requires.1

pub slice_bounds-is_index-start : goal.slice_bounds-is_index-start
slice_bounds-is_index-start c = standing.ones-zeros _ _ c.requires.0 c.requires.1

pub slice_bounds-is_index-end : goal.slice_bounds-is_index-end
slice_bounds-is_index-end c = standing.zeros_end _ _ c.requires.0 c.requires.1

pub is_index-requires : goal.is_index-requires
is_index-requires c =
    (standing.high_room c.args.image.now c.args.p c.requires.0 c.requires.1 (c.shared_slice_known-1.given 0).fits c.requires.2, (standing.indexable c.args.image.now c.args.p c.requires.0 c.requires.1 (c.shared_slice_known-1.given 0).fits c.requires.2).1, standing.ones-count c.args.image.now c.args.p c.requires.0 c.requires.1 (c.shared_slice_known-1.given 0).fits c.requires.2)

pub returns-then-not-is_index : goal.returns-then-not-is_index
unfolding parts_by
returns-then-not-is_index c = indexing.other_ones c.args.image.now _ _ _ _ (standing.high_part_lem c.args.image.now c.args.p c.requires.0 c.requires.1) (ap (λ (q : Parts). q.high_len) c.requires.0) (standing.ones_part c.args.image.now c.args.p c.requires.0 c.requires.1) refl _ c.is_index.ensures (not-true _ c.if-not-is_index.true-raw)

pub overflow_sub-p : goal.overflow_sub-p
overflow_sub-p c = standing.ones-fit c.args.image.now c.args.p c.requires.0 c.requires.1 (c.shared_slice_known-1.given 0).fits c.requires.2

pub offset_bounds-image-zeros_at : goal.offset_bounds-image-zeros_at
offset_bounds-image-zeros_at c = let e = standing.zeros_end _ _ c.requires.0 c.requires.1 in record { fits = omega (arith, c.well_formed) }

pub slice_bounds-is_index-count-then-p : goal.slice_bounds-is_index-count-then-p
slice_bounds-is_index-count-then-p c = standing.zeros_end _ _ c.requires.0 c.requires.1

pub slice_bounds-is_index-start-then-p : goal.slice_bounds-is_index-start-then-p
slice_bounds-is_index-start-then-p c = standing.zeros_end _ _ c.requires.0 c.requires.1

pub is_index-requires-then-p : goal.is_index-requires-then-p
is_index-requires-then-p c =
    (standing.high_room c.args.image.now c.args.p c.requires.0 c.requires.1 (c.shared_slice_known-1.given 0).fits c.requires.2, (standing.indexable c.args.image.now c.args.p c.requires.0 c.requires.1 (c.shared_slice_known-1.given 0).fits c.requires.2).1, standing.zeros-count c.args.image.now c.args.p c.requires.0 c.requires.1 (c.shared_slice_known-1.given 0).fits c.requires.2)

pub returns-then-p : goal.returns-then-p
unfolding parts_by
returns-then-p c =
    indexing.then_zeros c.args.image.now _ _ _ _ (standing.high_part_lem c.args.image.now c.args.p c.requires.0 c.requires.1) (ap (λ (q : Parts). q.high_len) c.requires.0) (standing.ones_part c.args.image.now c.args.p c.requires.0 c.requires.1) (standing.zeros_part c.args.image.now c.args.p c.requires.0 c.requires.1) _ _ c.is_index.ensures (not-false _ c.if-not-is_index.false-raw) (sym (ap (λ (q : Parts). q.rank) c.requires.0) ∙ c.if-p.true) c.is_index-then-p.ensures

pub returns : goal.returns
unfolding parts_by
returns c = indexing.no_second c.args.image.now _ _ _ _ (standing.high_part_lem c.args.image.now c.args.p c.requires.0 c.requires.1) (ap (λ (q : Parts). q.high_len) c.requires.0) (standing.ones_part c.args.image.now c.args.p c.requires.0 c.requires.1) refl _ c.is_index.ensures (not-false _ c.if-not-is_index.false-raw) (sym (ap (λ (q : Parts). q.rank) c.requires.0) ∙ c.if-p.false) (standing.no_zeros c.args.image.now c.args.p c.requires.0 c.requires.1 (sym (ap (λ (q : Parts). q.rank) c.requires.0) ∙ c.if-p.false))
