-- `elias_fano::image::one_at` meets its contract.
-- Assumes nothing.
use native.Mathlib.Omega.{arith}
use Rattle.elias_fano.proofs.Accepting.{found}
use Rattle.elias_fano.proofs.Selecting as selecting
use Rattle.elias_fano.proofs.Standing as standing
use Rattle.elias_fano.proofs.image.one_at.Goals as goal

pub slice_bounds-select_within-count : goal.slice_bounds-select_within-count
slice_bounds-select_within-count c = standing.six_low c.args.image.now.words.now c.args.image.now.parts c.args.image.now.right (found c.args.image.now.words.now c.args.image.now.ok).head

pub slice_bounds-select_within-start : goal.slice_bounds-select_within-start
slice_bounds-select_within-start c = standing.six_low c.args.image.now.words.now c.args.image.now.parts c.args.image.now.right (found c.args.image.now.words.now c.args.image.now.ok).head

pub slice_bounds-select_within-end : goal.slice_bounds-select_within-end
slice_bounds-select_within-end c = standing.low_end c.args.image.now.words.now c.args.image.now.parts c.args.image.now.right (found c.args.image.now.words.now c.args.image.now.ok).head

pub offset_bounds-image-ones_at : goal.offset_bounds-image-ones_at
offset_bounds-image-ones_at c = let e = standing.ones_end c.args.image.now.words.now c.args.image.now.parts c.args.image.now.right (found c.args.image.now.words.now c.args.image.now.ok).head in record { fits = omega (arith, c.well_formed) }

pub slice_bounds-select_within-count-2 : goal.slice_bounds-select_within-count-2
slice_bounds-select_within-count-2 c = standing.ones-zeros c.args.image.now.words.now c.args.image.now.parts c.args.image.now.right (found c.args.image.now.words.now c.args.image.now.ok).head

pub slice_bounds-select_within-start-2 : goal.slice_bounds-select_within-start-2
slice_bounds-select_within-start-2 c = standing.ones-zeros c.args.image.now.words.now c.args.image.now.parts c.args.image.now.right (found c.args.image.now.words.now c.args.image.now.ok).head

pub slice_bounds-select_within-end-2 : goal.slice_bounds-select_within-end-2
slice_bounds-select_within-end-2 c = standing.zeros_end c.args.image.now.words.now c.args.image.now.parts c.args.image.now.right (found c.args.image.now.words.now c.args.image.now.ok).head

pub select_within-requires : goal.select_within-requires
select_within-requires c = (selecting.indexed c.args.image.now.words.now c.args.image.now.ok c.args.image.now.parts c.args.image.now.right, c.requires)

pub returns : goal.returns
returns c =
    record { ok = c.args.image.now.ok; parts = c.args.image.now.right; below = c.requires; place = c.select_within.ensures }
