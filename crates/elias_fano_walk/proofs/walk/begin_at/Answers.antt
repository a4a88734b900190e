-- `elias_fano_walk::walk::begin_at` meets its contract.
-- Assumes nothing.
use mathlib.Core.Path.{refl}
use Rattle.elias_fano.proofs.Accepting.{found}
use Rattle.elias_fano.proofs.Standing as standing
use Rattle.elias_fano_walk.proofs.Walked as walked
use Rattle.elias_fano_walk.proofs.walk.begin_at.Goals as goal

pub slice_bounds-walk_from-count : goal.slice_bounds-walk_from-count
slice_bounds-walk_from-count c = standing.six_low c.args.image.now.words.now c.args.image.now.parts c.requires.parts (found c.args.image.now.words.now c.requires.ok).head

pub slice_bounds-walk_from-start : goal.slice_bounds-walk_from-start
slice_bounds-walk_from-start c = standing.six_low c.args.image.now.words.now c.args.image.now.parts c.requires.parts (found c.args.image.now.words.now c.requires.ok).head

pub slice_bounds-walk_from-end : goal.slice_bounds-walk_from-end
slice_bounds-walk_from-end c = standing.low_end c.args.image.now.words.now c.args.image.now.parts c.requires.parts (found c.args.image.now.words.now c.requires.ok).head

pub walk_from-ones-requires : goal.walk_from-ones-requires
walk_from-ones-requires c = walked.begin_room c.args.image.now.words.now c.requires.ok c.args.image.now.parts c.requires.parts c.args.k _ c.requires

pub returns : goal.returns
returns c =
    ((λ h. walked.begun c.args.image.now.words.now c.requires.ok c.args.image.now.parts c.requires.parts c.args.k _ c.requires _ c.walk_from-ones.ensures), refl)
