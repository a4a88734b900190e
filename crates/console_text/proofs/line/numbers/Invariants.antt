-- `console_text::line::numbers` meets its contract. The invariant: what is left of the line goes after the n numbers so far. Assumes nothing.
use mathlib.Core.Path.{◌≡◌}
use Prim.Native.Nat.{◌≤◌, ◌-◌}
use lib.ListN.{length, drop}
use Rattle.console_text.specs.Line.{fields, numbers_from}
use Rattle.console_text.proofs.line.numbers.Given as goal

abbrev pub invariant-loop-at : goal.invariant-loop-at
invariant-loop-at l = (l.n ≤ l.at) × (numbers_from 0 0 0 0 0 (fields (drop l.end l.line)) ≡ numbers_from l.n l.a l.b l.c l.d (fields (drop l.at l.line)))

abbrev pub decreases-loop-at : goal.decreases-loop-at
decreases-loop-at l = length l.line - l.at
