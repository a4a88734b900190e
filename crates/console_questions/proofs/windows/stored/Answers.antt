-- `console_questions::windows::stored` meets its contract. Assumes nothing.
use mathlib.Core.Path.{ap, ◌∙◌}
use lib.ListN.{take, drop}
use Rattle.console_text.specs.Line.{fields}
use Rattle.console_text.proofs.Reading.{stored_values}
use Rattle.console_questions.specs.Questions.{count_says}
use Rattle.console_questions.proofs.windows.stored.Goals as goal

pub returns : goal.returns
returns c =
    let a = c.args in
    let fs = fields (drop a.end a.text.now) in
    let e = c.first.ensures ∙ ap (take a.n) c.store.ensures ∙ stored_values a.numbers.now fs a.n c.requires.0 c.requires.2 in
    c.counted.ensures ∙ ap (count_says a.image.now) e
