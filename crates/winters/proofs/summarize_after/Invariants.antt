-- `winters::summarize_after` meets its contract. The invariant: the values before the walk are summed up, and the loop is as far as the walk.
-- Assumes nothing.
use mathlib.Core.Path.{◌≡◌}
use Rattle.winters.proofs.Summing as summing
use Rattle.winters.proofs.summarize_after.Given as goal

abbrev pub invariant-loop : goal.invariant-loop
invariant-loop l = (l.counter ≡ l.w.number) × summing.SumsOn l.image.words.now l.image.parts l.first l.e l.initial.w.number l.w l.last l.gap
