-- `elias_fano::image::holds_values` meets its contract.
-- Assumes nothing.
use mathlib.Core.Path.{◌∙◌}
use Rattle.elias_fano.proofs.Standing as standing
use Rattle.elias_fano.proofs.image.holds_values.Goals as goal

pub slice_bounds-check-count : goal.slice_bounds-check-count
slice_bounds-check-count c = standing.six_ones _ _ c.requires.0 c.requires.1

pub slice_bounds-check-start : goal.slice_bounds-check-start
slice_bounds-check-start c = standing.six_ones _ _ c.requires.0 c.requires.1

pub slice_bounds-check-end : goal.slice_bounds-check-end
slice_bounds-check-end c = standing.ones_end _ _ c.requires.0 c.requires.1

pub check-last-requires : goal.check-last-requires
check-last-requires c = standing.checkable c.args.image.now c.args.p c.requires.0 c.requires.1

pub returns : goal.returns
returns c = c.is_some.ensures ∙ standing.held c.args.image.now c.args.p c.requires.0 c.requires.1 c.args.strict _ _ c.check-last.ensures
