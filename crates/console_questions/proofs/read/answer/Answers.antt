-- `console_questions::read::answer` meets its contract. Assumes nothing.
use mathlib.Core.Path.{ap, ◌∙◌}
use mathlib.Core.List.{List}
use Prim.Native.Nat.{ℕ}
use Rattle.elias_fano.specs.Ask.{read_from_of}
use Rattle.console_text.specs.Held.{held}
use Rattle.console_questions.specs.Questions.{with_read}
use Rattle.console_questions.proofs.Telling.{take_equal}
use Rattle.console_questions.proofs.read.answer.Goals as goal

pub returns : goal.returns
returns c =
    let a = c.args in
    c.into.ensures ∙ ap (λ (l : List ℕ). with_read (read_from_of a.image.now a.k l) (held a.out.now)) (take_equal a.count 4096 0 c.requires)
