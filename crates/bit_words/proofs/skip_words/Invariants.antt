-- `bit_words::skip_words` meets its contract. The invariant: the ones before the word, and those left, are those looked for.
-- Assumes nothing.
use Rattle.std.proofs.Common.{◌≡◌, ◌+◌, ◌-◌, ◌*◌, ◌≤◌}
use Rattle.broadword.specs.Bits.{count}
use Rattle.bit_words.specs.Vector.{bit_over}
use Rattle.bit_words.proofs.skip_words.Given as goal

abbrev pub invariant-loop-word : goal.invariant-loop-word
invariant-loop-word l = (l.first ≤ l.word) × (l.word ≤ l.used) × (count (bit_over l.over_one l.words) (l.word * 64) + l.left ≡ count (bit_over l.over_one l.words) (l.first * 64) + l.k)

abbrev pub decreases-loop-word : goal.decreases-loop-word
decreases-loop-word l = l.used - l.word
