-- `elias_fano::builder::resume_by` meets its contract.
-- Assumes nothing.
use mathlib.Core.Path.{sym, ◌∙◌}
use native.Mathlib.Nat.{le_trans}
use borrow.Author.Tests.{not-true, not-false}
use lib.Seq.{length-take-le}
use Rattle.elias_fano.proofs.Resuming as resuming
use Rattle.elias_fano.proofs.Testing as testing
use Rattle.elias_fano.proofs.builder.resume_by.Goals as goal

pub slice_bounds-are_zeros-end : goal.slice_bounds-are_zeros-end
slice_bounds-are_zeros-end c = sym (length-take-le 6 c.args.words.now (le_trans (testing.six_le _ c.args.words.now _ c.requires) (testing.start_le _ c.args.words.now _ c.requires)))

pub returns-then-not-are_zeros : goal.returns-then-not-are_zeros
returns-then-not-are_zeros c = resuming.header_set _ c.args.words.now _ c.requires (sym c.are_zeros.ensures ∙ not-true _ c.if-not-are_zeros.true-raw)

pub returns-then-not-is_intact : goal.returns-then-not-is_intact
returns-then-not-is_intact c =
    resuming.not_intact _ c.args.words.now _ c.requires (sym c.are_zeros.ensures ∙ not-false _ c.if-not-are_zeros.false-raw) (sym c.is_intact.ensures ∙ not-true _ c.if-not-is_intact.true-raw)

pub returns : goal.returns
returns c =
    resuming.resumes _ c.args.words.now _ c.requires (sym c.are_zeros.ensures ∙ not-false _ c.if-not-are_zeros.false-raw) (sym c.is_intact.ensures ∙ not-false _ c.if-not-is_intact.false-raw)
