-- `weekly_windows::count_opened` meets its contract. Assumes nothing.
use borrow.Author.Tests.{not-true, not-false}
use mathlib.Core.Path.{sym, ◌∙◌}
use Rattle.elias_fano.specs.Accept.{times}
use Rattle.elias_fano.proofs.Images as images
use Rattle.weekly_windows.proofs.Counting as counting
use Rattle.weekly_windows.proofs.count_opened.Goals as goal

pub returns-then-not-are_windows : goal.returns-then-not-are_windows
returns-then-not-are_windows c = counting.answer_refused _ _ _ _ (sym c.are_windows.ensures ∙ not-true _ c.if-not-are_windows.true-raw)

pub returns-then-e-s : goal.returns-then-e-s
returns-then-e-s c = counting.answer_is _ _ _ _ (sym c.are_windows.ensures ∙ not-false _ c.if-not-are_windows.false-raw) 0 (sym (counting.count_no_span _ _ _ _ c.if-e-s.true))

pub returns : goal.returns
returns c =
    let w = c.args.windows.now in
    let T = times c.args.image.now.words.now in
    counting.answer_is T w c.args.s c.args.e (sym c.are_windows.ensures ∙ not-false _ c.if-not-are_windows.false-raw) _
    (c.count_within.ensures ∙ sym (counting.count_span w _ c.args.s c.args.e _ T (images.is_fit _ c.args.image.now.ok).rises c.begin_from-from.ensures.1))
