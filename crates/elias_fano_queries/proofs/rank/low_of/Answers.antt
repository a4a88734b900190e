-- `elias_fano_queries::rank::low_of` meets its contract.
-- Assumes nothing.
use mathlib.Core.Path.{ap, sym, ◌∙◌}
use Prim.Native.Nat.{ℕ, ◌%◌, ◌^◌}
use lib.ListN.{get_or}
use native.Mathlib.Omega.{arith}
use Rattle.elias_fano.specs.Accept.{times}
use Rattle.elias_fano.proofs.Accepting.{found}
use Rattle.elias_fano.proofs.Selecting as selecting
use Rattle.elias_fano.proofs.Standing as standing
use Rattle.elias_fano_queries.proofs.rank.low_of.Goals as goal

pub offset_bounds-image-start : goal.offset_bounds-image-start
offset_bounds-image-start c = let e = standing.low_end c.args.image.now.words.now c.args.image.now.parts c.args.image.now.right (found c.args.image.now.words.now c.args.image.now.ok).head in record { fits = omega (arith, c.well_formed) }

pub slice_bounds-low_at-count : goal.slice_bounds-low_at-count
slice_bounds-low_at-count c = standing.low_ones c.args.image.now.words.now c.args.image.now.parts c.args.image.now.right (found c.args.image.now.words.now c.args.image.now.ok).head

pub slice_bounds-low_at-start : goal.slice_bounds-low_at-start
slice_bounds-low_at-start c = standing.low_ones c.args.image.now.words.now c.args.image.now.parts c.args.image.now.right (found c.args.image.now.words.now c.args.image.now.ok).head

pub slice_bounds-low_at-end : goal.slice_bounds-low_at-end
slice_bounds-low_at-end c = standing.ones_end c.args.image.now.words.now c.args.image.now.parts c.args.image.now.right (found c.args.image.now.words.now c.args.image.now.ok).head

pub low_at-requires : goal.low_at-requires
low_at-requires c = (selecting.low_small c.args.image.now.words.now c.args.image.now.ok c.args.image.now.parts c.args.image.now.right, selecting.low_held c.args.image.now.words.now c.args.image.now.ok c.args.image.now.parts c.args.image.now.right c.args.k c.requires)

pub returns : goal.returns
returns c = selecting.lower c.args.image.now.words.now c.args.image.now.ok c.args.image.now.parts c.args.image.now.right c.args.k c.requires _ c.low_at.ensures ∙ ap (λ (l : ℕ). get_or (times c.args.image.now.words.now) c.args.k 0 % 2 ^ l) (sym (selecting.low_len_is c.args.image.now.words.now c.args.image.now.ok c.args.image.now.parts c.args.image.now.right))
