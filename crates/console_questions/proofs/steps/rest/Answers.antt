-- `console_questions::steps::rest` meets its contract. Assumes nothing.
use mathlib.Core.Path.{◌≡◌, ap, sym, ◌∙◌}
use mathlib.Core.List.{List}
use Prim.Native.Nat.{ℕ, suc, ◌+◌, ◌-◌}
use native.Mathlib.Omega.{arith}
use Rattle.elias_fano_walk.specs.Walking.{value_step_of}
use Rattle.console_text.specs.Gathered.{Gathered, with_byte, with_says}
use Rattle.console_text.specs.Says.{answers, says_of}
use Rattle.console_text.specs.Held.{held}
use Rattle.console_questions.proofs.Walks.{rest_more, rest_done}
use Rattle.console_questions.proofs.steps.rest.Goals as goal

pub loop-preserved : goal.loop-preserved
loop-preserved g c =
    let a = c.args in
    let l = c.loop in
    let s = c.step-reply in
    let T = g.S.Steps.over a.walk.now in
    let e : a.count - l.counter ≡ suc (a.count - (l.counter + 1)) = omega arith in
    let n = s.ensures.number ∙ ap (λ (U : List ℕ). (value_step_of U (g.S.Steps.number l.walk)).number) l.invariant.over in
    let h = c.answer.ensures
    ∙ ap (λ (h : Gathered). with_says h (says_of s.result)) c.byte.ensures
    ∙ ap (with_says (with_byte (held l.out) 32)) (s.ensures.says ∙ ap (λ (U : List ℕ). answers (value_step_of U (g.S.Steps.number l.walk)).answer) l.invariant.over) in
    record {
      ready = s.ensures.ready;
      over = s.ensures.over ∙ l.invariant.over;
      left = l.invariant.left ∙ rest_more T (held l.out) (g.S.Steps.number l.walk) (held c.answer.new.self) (g.S.Steps.number s.new.self) (a.count - l.counter) (a.count - (l.counter + 1)) e n h;
    }

pub returns : goal.returns
returns g c =
    let a = c.args in
    let l = c.loop in
    sym (l.invariant.left ∙ rest_done (g.S.Steps.over a.walk.now) (held l.out) (g.S.Steps.number l.walk) (a.count - l.counter) (omega arith))
