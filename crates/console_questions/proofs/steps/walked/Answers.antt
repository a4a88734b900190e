-- `console_questions::steps::walked` meets its contract. Assumes nothing.
use mathlib.Core.Path.{◌≡◌, ap, sym, ◌∙◌}
use mathlib.Core.List.{List}
use Prim.Native.Nat.{ℕ, suc, ◌-◌}
use native.Mathlib.Omega.{arith}
use Rattle.console_text.specs.Gathered.{with_says}
use Rattle.console_text.specs.Held.{held}
use Rattle.console_questions.specs.Questions.{with_each, nexts_from}
use Rattle.console_questions.proofs.Walks.{all_more, all_done}
use Rattle.console_questions.proofs.steps.walked.Goals as goal

pub returns-then-count-eq0 : goal.returns-then-count-eq0
returns-then-count-eq0 g c =
    let a = c.args in
    sym (all_done (g.S.Steps.over a.walk.now) (held a.out.now) (g.S.Steps.number a.walk.now) a.count c.if-count-eq0.true)

pub returns : goal.returns
returns g c =
    let a = c.args in
    let s = c.step-reply in
    let e : a.count ≡ suc (a.count - 1) = omega (arith, c.if-count-eq0.false) in
    c.rest.ensures
    ∙ ap (λ (U : List ℕ). with_each (held c.answer.new.self) (nexts_from U (g.S.Steps.number s.new.self) (a.count - 1))) s.ensures.over
    ∙ sym (all_more (g.S.Steps.over a.walk.now) (held a.out.now) (g.S.Steps.number a.walk.now) (held c.answer.new.self) (g.S.Steps.number s.new.self) a.count (a.count - 1) e s.ensures.number
    (c.answer.ensures ∙ ap (with_says (held a.out.now)) s.ensures.says))
