-- `elias_fano::image::open_if` meets its contract.
-- Assumes nothing.
use borrow.Author.Tests.{not-true, not-false}
use mathlib.Core.Path.{sym, ◌∙◌}
use Rattle.broadword.proofs.Truth.{true_false}
use Rattle.elias_fano.proofs.Accepting.{found, accepted_of, holds-accepted, bits_of, accepts_if}
use Rattle.elias_fano.proofs.Answers as answers
use Rattle.elias_fano.proofs.image.open_if.Goals as goal

pub returns-in_default : goal.returns-in_default
returns-in_default c = answers.open_refused c.args.image.now c.args.strict (λ a. answers.heads_wrong c.args.image.now _ c.read_header.ensures c.in_default.is (accepted_of c.args.image.now c.args.strict a))

pub holds_values-requires : goal.holds_values-requires
holds_values-requires c = answers.heads_parts c.args.image.now _ _ c.read_header.ensures c.in-Some.is

pub returns-then-not-holds_values : goal.returns-then-not-holds_values
returns-then-not-holds_values c = answers.open_refused c.args.image.now c.args.strict (λ a. true_false (sym (holds-accepted c.args.image.now c.args.strict a) ∙ sym c.holds_values.ensures ∙ not-true _ c.if-not-holds_values.true-raw))

pub has_indexes-requires : goal.has_indexes-requires
has_indexes-requires c = let h = answers.heads_parts c.args.image.now _ _ c.read_header.ensures c.in-Some.is in (h.0, h.1, bits_of c.args.image.now c.args.strict (sym c.holds_values.ensures ∙ not-false _ c.if-not-holds_values.false-raw))

pub returns-then-not-has_indexes : goal.returns-then-not-has_indexes
returns-then-not-has_indexes c = answers.open_refused c.args.image.now c.args.strict (λ a. c.has_indexes.ensures.no (not-true _ c.if-not-has_indexes.true-raw) (found c.args.image.now (accepted_of c.args.image.now c.args.strict a)).indexed)

pub returns : goal.returns
returns c =
    let h = answers.heads_parts c.args.image.now _ _ c.read_header.ensures c.in-Some.is in
    answers.open_image c.args.image.now c.args.strict _ h.0 (accepts_if c.args.image.now c.args.strict h.1 (sym c.holds_values.ensures ∙ not-false _ c.if-not-holds_values.false-raw) (c.has_indexes.ensures.yes (not-false _ c.if-not-has_indexes.false-raw)) (λ j. (c.shared_slice_known-1.given j).fits))
