-- `console_text::output::Output::text` meets its contract. The invariant: what is left of the text goes after what has gathered. Assumes nothing.
use mathlib.Core.Path.{◌≡◌}
use lib.ListN.{drop}
use Rattle.console_text.specs.Gathered.{with_text}
use Rattle.console_text.specs.Held.{held}
use Rattle.console_text.proofs.output.Output.text.Given as goal

abbrev pub invariant-loop-b : goal.invariant-loop-b
invariant-loop-b l = with_text (held l.initial.self) l.s ≡ with_text (held l.self) (drop l.b-index l.s)
