-- `console_sums::walk::answer` meets its contract. Assumes nothing.
use mathlib.Core.Path.{◌∙◌}
use Rattle.console_text.specs.Held.{held}
use Rattle.console_sums.proofs.Telling.{walk_started, walk_refused}
use Rattle.console_sums.proofs.walk.answer.Goals as goal

pub returns-in-Ok : goal.returns-in-Ok
returns-in-Ok c =
    let a = c.args in
    let h = c.in-Ok.ensures in
    c.walked.ensures ∙ walk_started a.image.now a.count (held a.out.now) _ h.0 h.2

pub returns-in-Err : goal.returns-in-Err
returns-in-Err c =
    let a = c.args in
    let h = c.in-Err.ensures in
    c.refusal.ensures ∙ walk_refused a.image.now a.count (held a.out.now) _ h.0 h.1
