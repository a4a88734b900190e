-- `console_questions::windows::answer` meets its contract. Assumes nothing.
use mathlib.Core.Path.{sym, ◌∙◌}
use lib.ListN.{drop}
use Rattle.console_text.specs.Line.{fields}
use Rattle.console_text.proofs.Reading.{numbers_length}
use Rattle.console_questions.proofs.Spans.{spans_fit}
use Rattle.console_questions.proofs.windows.answer.Goals as goal

pub stored-requires : goal.stored-requires
stored-requires c =
    let a = c.args in
    let h = spans_fit c.in-Some.r (sym c.fits.ensures ∙ c.if-fits.true) in
    (numbers_length (fields (drop a.end a.text.now)) c.in-Some.r c.in-Some.ensures, h.0, h.1)
