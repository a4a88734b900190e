-- `elias_fano_queries::rank::is_crowded` meets its contract.
-- Assumes nothing.
use native.Mathlib.Omega.{arith}
use Rattle.elias_fano.proofs.Accepting.{found}
use Rattle.elias_fano.proofs.Standing as standing
use Rattle.elias_fano_queries.proofs.Opened as opened
use Rattle.elias_fano_queries.proofs.rank.is_crowded.Goals as goal

pub returns-then-place-le-LINEAR_WALK_THRESHOLD : goal.returns-then-place-le-LINEAR_WALK_THRESHOLD
returns-then-place-le-LINEAR_WALK_THRESHOLD c = opened.not_crowded _ c.args.place c.if-place-le-LINEAR_WALK_THRESHOLD.true

pub slice_bounds-window-count : goal.slice_bounds-window-count
slice_bounds-window-count c = standing.six_low c.args.image.now.words.now c.args.image.now.parts c.args.image.now.right (found c.args.image.now.words.now c.args.image.now.ok).head

pub slice_bounds-window-start : goal.slice_bounds-window-start
slice_bounds-window-start c = standing.six_low c.args.image.now.words.now c.args.image.now.parts c.args.image.now.right (found c.args.image.now.words.now c.args.image.now.ok).head

pub slice_bounds-window-end : goal.slice_bounds-window-end
slice_bounds-window-end c = standing.low_end c.args.image.now.words.now c.args.image.now.parts c.args.image.now.right (found c.args.image.now.words.now c.args.image.now.ok).head

pub overflow_sub-start : goal.overflow_sub-start
overflow_sub-start c = standing.six_low c.args.image.now.words.now c.args.image.now.parts c.args.image.now.right (found c.args.image.now.words.now c.args.image.now.ok).head

pub window-before-requires : goal.window-before-requires
window-before-requires c = let a = opened.part_length c.args.image.now.words.now c.args.image.now.ok c.args.image.now.parts c.args.image.now.right in let b = opened.part_room c.args.image.now.words.now c.args.image.now.ok c.args.image.now.parts c.args.image.now.right in (omega (arith, c.requires), omega arith)

pub returns : goal.returns
returns c = opened.crowded_is c.args.image.now.words.now c.args.image.now.ok c.args.image.now.parts c.args.image.now.right c.args.place _ _ c.if-place-le-LINEAR_WALK_THRESHOLD.false c.window-before.ensures c.low_bits.ensures
