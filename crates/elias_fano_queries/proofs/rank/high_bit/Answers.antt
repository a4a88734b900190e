-- `elias_fano_queries::rank::high_bit` meets its contract.
-- Assumes nothing.
use native.Mathlib.Omega.{arith}
use Rattle.elias_fano.proofs.Accepting.{found}
use Rattle.elias_fano.proofs.Standing as standing
use Rattle.elias_fano_queries.proofs.Opened as opened
use Rattle.elias_fano_queries.proofs.rank.high_bit.Goals as goal

pub slice_bounds-high-count : goal.slice_bounds-high-count
slice_bounds-high-count c = standing.six_low c.args.image.now.words.now c.args.image.now.parts c.args.image.now.right (found c.args.image.now.words.now c.args.image.now.ok).head

pub slice_bounds-high-start : goal.slice_bounds-high-start
slice_bounds-high-start c = standing.six_low c.args.image.now.words.now c.args.image.now.parts c.args.image.now.right (found c.args.image.now.words.now c.args.image.now.ok).head

pub slice_bounds-high-end : goal.slice_bounds-high-end
slice_bounds-high-end c = standing.low_end c.args.image.now.words.now c.args.image.now.parts c.args.image.now.right (found c.args.image.now.words.now c.args.image.now.ok).head

pub bounds-high-at : goal.bounds-high-at
bounds-high-at c = let a = opened.part_length c.args.image.now.words.now c.args.image.now.ok c.args.image.now.parts c.args.image.now.right in let b = opened.part_room c.args.image.now.words.now c.args.image.now.ok c.args.image.now.parts c.args.image.now.right in omega (arith, c.requires)

pub returns : goal.returns
returns c = opened.high_bit _ c.args.place
