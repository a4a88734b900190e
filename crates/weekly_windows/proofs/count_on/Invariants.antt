-- `weekly_windows::count_on` meets its contract. The invariant: the values before the walk are counted, and the loop is as far as the walk.
-- Assumes nothing.
use mathlib.Core.Path.{◌≡◌}
use lib.ListN.{take}
use Rattle.weekly_windows.proofs.Counting as counting
use Rattle.weekly_windows.proofs.count_on.Given as goal

abbrev pub invariant-loop : goal.invariant-loop
invariant-loop l = (l.counter ≡ l.w.number) × counting.CountsOn l.image.words.now l.image.parts (take l.cuts.n l.cuts.at.now) l.e l.initial.w.number l.w l.count
