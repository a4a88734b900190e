-- `elias_fano_queries::neighbours::one_from` meets its contract.
-- Assumes nothing.
use Rattle.elias_fano.proofs.Accepting.{found}
use Rattle.elias_fano.proofs.Standing as standing
use Rattle.elias_fano_queries.proofs.Neighbouring as neighbouring
use Rattle.elias_fano_queries.proofs.neighbours.one_from.Goals as goal

pub slice_bounds-first_from-count : goal.slice_bounds-first_from-count
slice_bounds-first_from-count c = standing.six_low c.args.image.now.words.now c.args.image.now.parts c.args.image.now.right (found c.args.image.now.words.now c.args.image.now.ok).head

pub slice_bounds-first_from-start : goal.slice_bounds-first_from-start
slice_bounds-first_from-start c = standing.six_low c.args.image.now.words.now c.args.image.now.parts c.args.image.now.right (found c.args.image.now.words.now c.args.image.now.ok).head

pub slice_bounds-first_from-end : goal.slice_bounds-first_from-end
slice_bounds-first_from-end c = standing.low_end c.args.image.now.words.now c.args.image.now.parts c.args.image.now.right (found c.args.image.now.words.now c.args.image.now.ok).head

pub overflow_sub-start : goal.overflow_sub-start
overflow_sub-start c = standing.six_low c.args.image.now.words.now c.args.image.now.parts c.args.image.now.right (found c.args.image.now.words.now c.args.image.now.ok).head

pub first_from-requires : goal.first_from-requires
first_from-requires c = (neighbouring.findable c.args.image.now.words.now c.args.image.now.parts c.args.k c.args.place c.requires.0 c.requires.1, neighbouring.enough c.args.image.now.words.now c.args.image.now.parts c.args.k c.args.place c.requires.0 c.requires.1)

pub returns : goal.returns
returns c = neighbouring.from_is c.args.image.now.words.now c.args.image.now.parts c.args.k c.args.place c.requires.0 c.requires.1 _ c.first_from.ensures
