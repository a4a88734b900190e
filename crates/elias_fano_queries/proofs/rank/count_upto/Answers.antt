-- `elias_fano_queries::rank::count_upto` meets its contract.
-- Assumes nothing.
use native.Mathlib.Omega.{arith}
use Rattle.elias_fano.proofs.Accepting.{found}
use Rattle.elias_fano.proofs.Standing as standing
use Rattle.elias_fano.proofs.Images.{is_fit}
use Rattle.elias_fano_queries.proofs.Opened as opened
use Rattle.elias_fano_queries.proofs.rank.count_upto.Goals as goal

pub overflow_sub-zeros : goal.overflow_sub-zeros
overflow_sub-zeros c = let f = found c.args.image.now.words.now c.args.image.now.ok in standing.ones-fit c.args.image.now.words.now c.args.image.now.parts c.args.image.now.right f.head (is_fit c.args.image.now.words.now c.args.image.now.ok).small f.bits

pub slice_bounds-select_within-count : goal.slice_bounds-select_within-count
slice_bounds-select_within-count c = standing.six_low c.args.image.now.words.now c.args.image.now.parts c.args.image.now.right (found c.args.image.now.words.now c.args.image.now.ok).head

pub slice_bounds-select_within-start : goal.slice_bounds-select_within-start
slice_bounds-select_within-start c = standing.six_low c.args.image.now.words.now c.args.image.now.parts c.args.image.now.right (found c.args.image.now.words.now c.args.image.now.ok).head

pub slice_bounds-select_within-end : goal.slice_bounds-select_within-end
slice_bounds-select_within-end c = standing.low_end c.args.image.now.words.now c.args.image.now.parts c.args.image.now.right (found c.args.image.now.words.now c.args.image.now.ok).head

pub offset_bounds-image-zeros_at : goal.offset_bounds-image-zeros_at
offset_bounds-image-zeros_at c = let e = standing.zeros_end c.args.image.now.words.now c.args.image.now.parts c.args.image.now.right (found c.args.image.now.words.now c.args.image.now.ok).head in record { fits = omega (arith, c.well_formed) }

pub slice_bounds-select_within-count-2 : goal.slice_bounds-select_within-count-2
slice_bounds-select_within-count-2 c = standing.zeros_end c.args.image.now.words.now c.args.image.now.parts c.args.image.now.right (found c.args.image.now.words.now c.args.image.now.ok).head

pub slice_bounds-select_within-start-2 : goal.slice_bounds-select_within-start-2
slice_bounds-select_within-start-2 c = standing.zeros_end c.args.image.now.words.now c.args.image.now.parts c.args.image.now.right (found c.args.image.now.words.now c.args.image.now.ok).head

pub select_within-place-requires : goal.select_within-place-requires
select_within-place-requires c = (opened.indexed_zeros c.args.image.now.words.now c.args.image.now.ok c.args.image.now.parts c.args.image.now.right c.requires.0, opened.zero_in c.args.image.now.words.now c.args.image.now.ok c.args.image.now.parts c.args.image.now.right c.args.h c.requires.1)

pub overflow_sub-result : goal.overflow_sub-result
overflow_sub-result c = opened.after-zeros c.args.image.now.words.now c.args.image.now.ok c.args.image.now.parts c.args.image.now.right c.args.h _ c.select_within-place.ensures

pub returns : goal.returns
returns c = opened.zero_rank c.args.image.now.words.now c.args.image.now.ok c.args.image.now.parts c.args.image.now.right c.args.h _ c.select_within-place.ensures
