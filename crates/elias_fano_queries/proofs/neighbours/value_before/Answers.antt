-- `elias_fano_queries::neighbours::value_before` meets its contract.
-- Assumes nothing.
use Rattle.elias_fano.proofs.Accepting.{found}
use Rattle.elias_fano.proofs.Standing as standing
use Rattle.elias_fano_queries.proofs.Neighbouring as neighbouring
use Rattle.elias_fano_queries.proofs.neighbours.value_before.Goals as goal

pub slice_bounds-last_before-count : goal.slice_bounds-last_before-count
slice_bounds-last_before-count c = standing.six_low c.args.image.now.words.now c.args.image.now.parts c.args.image.now.right (found c.args.image.now.words.now c.args.image.now.ok).head

pub slice_bounds-last_before-start : goal.slice_bounds-last_before-start
slice_bounds-last_before-start c = standing.six_low c.args.image.now.words.now c.args.image.now.parts c.args.image.now.right (found c.args.image.now.words.now c.args.image.now.ok).head

pub slice_bounds-last_before-end : goal.slice_bounds-last_before-end
slice_bounds-last_before-end c = standing.low_end c.args.image.now.words.now c.args.image.now.parts c.args.image.now.right (found c.args.image.now.words.now c.args.image.now.ok).head

pub last_before-x-requires : goal.last_before-x-requires
last_before-x-requires c = neighbouring.before-room c.args.image.now.words.now c.args.image.now.parts c.args.k c.args.place c.requires.0 c.requires.1

pub value_at-requires : goal.value_at-requires
value_at-requires c = neighbouring.before_is c.args.image.now.words.now c.args.image.now.parts c.args.k c.args.place c.requires.0 c.requires.1 _ c.last_before-x.ensures

pub returns : goal.returns
returns c = c.value_at.ensures
