-- `console_questions::walk::answer` meets its contract. Assumes nothing.
use mathlib.Core.Path.{ap, sym, ◌∙◌}
use mathlib.Core.List.{List}
use Prim.Native.Nat.{ℕ}
use Rattle.elias_fano.specs.Accept.{times}
use Rattle.console_text.specs.Held.{held}
use Rattle.console_questions.specs.Questions.{with_answers, nexts_from, walk_of}
use Rattle.console_questions.proofs.Walks.{walk_opened, walk_refused}
use Rattle.console_questions.proofs.walk.answer.Goals as goal

pub returns-in-Ok : goal.returns-in-Ok
returns-in-Ok c =
    let a = c.args in
    let i = c.in-Ok.image in
    let g = held a.out.now in
    c.walked.ensures
    ∙ ap (λ (n : ℕ). with_answers g (nexts_from (times i.words.now) n a.count)) c.begin-walk.ensures.1
    ∙ sym (walk_opened i.words.now a.k i.ok g a.count)
    ∙ ap (λ (w : List ℕ). walk_of w a.k a.count g) c.in-Ok.ensures.0

pub returns-in-Err : goal.returns-in-Err
returns-in-Err c =
    let a = c.args in
    c.refusal.ensures ∙ walk_refused a.image.now a.k a.count (held a.out.now) _ c.in-Err.ensures
