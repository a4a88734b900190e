-- `console_text::line::place_in` meets its contract. The invariant: k words are passed, and the name is none of them. Assumes nothing.
use mathlib.Core.Path.{◌≡◌}
use Prim.Native.Nat.{◌+◌, ◌-◌, ◌≤◌}
use lib.ListN.{length, drop}
use Rattle.console_text.specs.Line.{words_in, place_among}
use Rattle.console_text.proofs.line.place_in.Given as goal

abbrev pub invariant-loop-at : goal.invariant-loop-at
invariant-loop-at l = (l.k ≤ l.at) × (place_among (words_in l.list) l.name ≡ l.k + place_among (words_in (drop l.at l.list)) l.name)

abbrev pub decreases-loop-at : goal.decreases-loop-at
decreases-loop-at l = length l.list - l.at
