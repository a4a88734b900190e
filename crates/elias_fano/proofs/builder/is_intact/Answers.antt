-- `elias_fano::builder::is_intact` meets its contract.
-- Assumes nothing.
use Rattle.std.proofs.Common.{rules, ◌∙◌}
use Rattle.elias_fano.proofs.Testing as testing
use Rattle.elias_fano.proofs.builder.is_intact.Goals as goal

pub slice_bounds-check-count : goal.slice_bounds-check-count
slice_bounds-check-count c = testing.six_le _ c.args.words.now _ c.requires

pub slice_bounds-check-start : goal.slice_bounds-check-start
slice_bounds-check-start c = testing.six_le _ c.args.words.now _ c.requires

pub slice_bounds-check-end : goal.slice_bounds-check-end
slice_bounds-check-end c = testing.start_le _ c.args.words.now _ c.requires

pub check-last-requires : goal.check-last-requires
check-last-requires c = testing.checkable _ c.args.words.now _ c.requires

pub returns : goal.returns
returns c = search rules ∙ testing.decided _ c.args.words.now _ c.requires _ c.check-last.ensures
