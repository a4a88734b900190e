-- `burner_questions::cells::repeated` meets its contract. The invariant: what is left goes after what has gathered. Assumes nothing.
use Rattle.std.proofs.Common.{◌≡◌, ◌-◌, replicate}
use Rattle.console_text.specs.Gathered.{with_text}
use Rattle.console_text.specs.Held.{held}
use Rattle.burner_questions.proofs.cells.repeated.Given as goal

abbrev pub invariant-loop : goal.invariant-loop
invariant-loop l = with_text (held l.initial.out) (replicate l.n l.b) ≡ with_text (held l.out) (replicate (l.n - l.counter) l.b)
