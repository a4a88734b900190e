-- `elias_fano::image::value_at` meets its contract.
-- Assumes nothing.
use native.Mathlib.Omega.{arith}
use Rattle.elias_fano.proofs.Accepting.{found}
use Rattle.elias_fano.proofs.Selecting as selecting
use Rattle.elias_fano.proofs.Standing as standing
use Rattle.elias_fano.proofs.image.value_at.Goals as goal

pub overflow_sub-result : goal.overflow_sub-result
overflow_sub-result c = selecting.at_or_past c.args.image.now.words.now c.requires.ok c.args.image.now.parts c.requires.parts c.args.k c.requires.below _ c.requires.place

pub overflow_shl-result : goal.overflow_shl-result
overflow_shl-result c = selecting.low_small c.args.image.now.words.now c.requires.ok c.args.image.now.parts c.requires.parts

pub offset_bounds-image-start : goal.offset_bounds-image-start
offset_bounds-image-start c = let e = standing.low_end c.args.image.now.words.now c.args.image.now.parts c.requires.parts (found c.args.image.now.words.now c.requires.ok).head in record { fits = omega (arith, c.well_formed) }

pub slice_bounds-low_at-count : goal.slice_bounds-low_at-count
slice_bounds-low_at-count c = standing.low_ones c.args.image.now.words.now c.args.image.now.parts c.requires.parts (found c.args.image.now.words.now c.requires.ok).head

pub slice_bounds-low_at-start : goal.slice_bounds-low_at-start
slice_bounds-low_at-start c = standing.low_ones c.args.image.now.words.now c.args.image.now.parts c.requires.parts (found c.args.image.now.words.now c.requires.ok).head

pub slice_bounds-low_at-end : goal.slice_bounds-low_at-end
slice_bounds-low_at-end c = standing.ones_end c.args.image.now.words.now c.args.image.now.parts c.requires.parts (found c.args.image.now.words.now c.requires.ok).head

pub low_at-requires : goal.low_at-requires
low_at-requires c = (selecting.low_small c.args.image.now.words.now c.requires.ok c.args.image.now.parts c.requires.parts, selecting.low_held c.args.image.now.words.now c.requires.ok c.args.image.now.parts c.requires.parts c.args.k c.requires.below)

pub overflow_add-result : goal.overflow_add-result
overflow_add-result c = selecting.value_fits c.args.image.now.words.now c.requires.ok c.args.image.now.parts c.requires.parts c.args.k c.requires.below _ c.requires.place _ c.low_at.ensures

pub returns : goal.returns
returns c = selecting.value_is c.args.image.now.words.now c.requires.ok c.args.image.now.parts c.requires.parts c.args.k c.requires.below _ c.requires.place _ c.low_at.ensures
