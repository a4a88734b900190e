-- `console_text::output::Output::list` meets its contract. The invariant: what is left of the list goes after what has gathered. Assumes nothing.
use mathlib.Core.Path.{◌≡◌}
use lib.ListN.{drop}
use Rattle.console_text.specs.Gathered.{with_list}
use Rattle.console_text.specs.Held.{held}
use Rattle.console_text.proofs.output.Output.list.Given as goal

abbrev pub invariant-loop-x : goal.invariant-loop-x
invariant-loop-x l = with_list (held l.initial.self) l.xs ≡ with_list (held l.self) (drop l.x-index l.xs)
