-- `console_questions::steps::rest` meets its contract. The invariant: what is left of the answers goes after what has gathered. Assumes nothing.
use mathlib.Core.Path.{◌≡◌}
use Prim.Native.Nat.{◌-◌}
use Rattle.console_text.specs.Held.{held}
use Rattle.console_questions.specs.Questions.{with_each, nexts_from}
use Rattle.console_questions.proofs.steps.rest.Given as goal

abbrev pub invariant-loop : goal.invariant-loop
invariant-loop g l = record {
  ready : g.S.Steps.ready l.walk;
  over : g.S.Steps.over l.walk ≡ g.S.Steps.over l.initial.walk;
  left : with_each (held l.initial.out) (nexts_from (g.S.Steps.over l.initial.walk) (g.S.Steps.number l.initial.walk) l.count)
      ≡ with_each (held l.out) (nexts_from (g.S.Steps.over l.initial.walk) (g.S.Steps.number l.walk) (l.count - l.counter));
}
