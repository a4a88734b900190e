-- `elias_fano_walk::search::section_by_high` meets its contract.
-- Assumes nothing.
use mathlib.Core.Bool.{true}
use native.Mathlib.Omega.{arith}
use Rattle.bit_words.specs.Vector.{bit_over}
use Rattle.bit_words.proofs.Runs.{bit_over_le}
use Rattle.elias_fano.specs.Opening.{high_part}
use Rattle.elias_fano.proofs.Accepting.{found}
use Rattle.elias_fano.proofs.Selecting as selecting
use Rattle.elias_fano.proofs.Standing as standing
use Rattle.elias_fano_walk.proofs.Halved as halved
use Rattle.elias_fano_walk.proofs.search.section_by_high.Goals as goal

pub slice_bounds-high-count : goal.slice_bounds-high-count
slice_bounds-high-count c = standing.six_low c.args.image.now.words.now c.args.image.now.parts c.args.image.now.right (found c.args.image.now.words.now c.args.image.now.ok).head

pub slice_bounds-high-start : goal.slice_bounds-high-start
slice_bounds-high-start c = standing.six_low c.args.image.now.words.now c.args.image.now.parts c.args.image.now.right (found c.args.image.now.words.now c.args.image.now.ok).head

pub slice_bounds-high-end : goal.slice_bounds-high-end
slice_bounds-high-end c = standing.low_end c.args.image.now.words.now c.args.image.now.parts c.args.image.now.right (found c.args.image.now.words.now c.args.image.now.ok).head

pub offset_bounds-image-ones_at : goal.offset_bounds-image-ones_at
offset_bounds-image-ones_at c = let e = standing.ones_end c.args.image.now.words.now c.args.image.now.parts c.args.image.now.right (found c.args.image.now.words.now c.args.image.now.ok).head in record { fits = omega (arith, c.well_formed) }

pub slice_bounds-index-count : goal.slice_bounds-index-count
slice_bounds-index-count c = standing.ones-zeros c.args.image.now.words.now c.args.image.now.parts c.args.image.now.right (found c.args.image.now.words.now c.args.image.now.ok).head

pub slice_bounds-index-start : goal.slice_bounds-index-start
slice_bounds-index-start c = standing.ones-zeros c.args.image.now.words.now c.args.image.now.parts c.args.image.now.right (found c.args.image.now.words.now c.args.image.now.ok).head

pub slice_bounds-index-end : goal.slice_bounds-index-end
slice_bounds-index-end c = standing.zeros_end c.args.image.now.words.now c.args.image.now.parts c.args.image.now.right (found c.args.image.now.words.now c.args.image.now.ok).head

pub overflow_shr-wanted : goal.overflow_shr-wanted
overflow_shr-wanted c = selecting.low_small c.args.image.now.words.now c.args.image.now.ok c.args.image.now.parts c.args.image.now.right

pub halve_high-from-requires : goal.halve_high-from-requires
halve_high-from-requires c =
    (selecting.indexed c.args.image.now.words.now c.args.image.now.ok c.args.image.now.parts c.args.image.now.right, c.requires.some, c.requires.upto, halved.few c.args.image.now.words.now c.args.image.now.ok c.args.image.now.parts c.args.image.now.right c.args.val c.args.a c.args.b c.requires)

pub high_section-requires : goal.high_section-requires
high_section-requires c =
    (selecting.indexed c.args.image.now.words.now c.args.image.now.ok c.args.image.now.parts c.args.image.now.right, c.halve_high-from.ensures.upto, c.requires.upto, halved.few c.args.image.now.words.now c.args.image.now.ok c.args.image.now.parts c.args.image.now.right c.args.val c.args.a c.args.b c.requires)

pub returns : goal.returns
returns c =
    let high = high_part c.args.image.now.words.now c.args.image.now.parts in
    let section = halved.high_join (bit_over true high) (bit_over_le true high) _ _ c.args.a c.args.b c.requires.some _ _ c.halve_high-from.ensures c.high_section.ensures in
    halved.from_high c.args.image.now.words.now c.args.image.now.ok c.args.image.now.parts c.args.image.now.right c.args.val c.args.a c.args.b c.requires _ section
