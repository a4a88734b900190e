-- `bit_words::last_used` meets its contract. The invariant: the words passed are 0.
-- Assumes nothing.
use Rattle.std.proofs.Common.{◌≡◌, ◌<◌, ◌≤◌, get_or, ℕ}
use Rattle.bit_words.proofs.last_used.Given as goal

abbrev pub invariant-loop-i : goal.invariant-loop-i
invariant-loop-i l = (j : ℕ) → l.i ≤ j → j < l.end → get_or l.words j 0 ≡ 0
