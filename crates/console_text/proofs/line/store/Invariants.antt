-- `console_text::line::store` meets its contract. The invariant: what is left of the line goes after what is stored. Assumes nothing.
use mathlib.Core.Path.{◌≡◌}
use Prim.Native.Nat.{◌-◌, ◌≤◌}
use lib.ListN.{length, drop}
use lib.Seq.{sets}
use Rattle.console_text.specs.Line.{fields, values_of}
use Rattle.console_text.proofs.line.store.Given as goal

abbrev pub invariant-loop-at : goal.invariant-loop-at
invariant-loop-at l = (l.i ≤ l.at) × (length l.words ≡ length l.initial.words) × (sets l.initial.words 0 (values_of (fields (drop l.end l.line))) ≡ sets l.words l.i (values_of (fields (drop l.at l.line))))

abbrev pub decreases-loop-at : goal.decreases-loop-at
decreases-loop-at l = length l.line - l.at
