-- `bit_words::count_words` meets its contract. The invariant: n is the count of the words passed.
-- Assumes nothing.
use Rattle.std.proofs.Common.{◌≡◌, ◌+◌, ◌*◌, ◌≤◌}
use Rattle.broadword.specs.Bits.{count}
use Rattle.bit_words.specs.Vector.{bit_over}
use Rattle.bit_words.proofs.count_words.Given as goal

abbrev pub invariant-loop-w : goal.invariant-loop-w
invariant-loop-w l =
    (l.n ≤ l.w-index * 64) × (count (bit_over l.over_one l.words) (l.first * 64) + l.n ≡ count (bit_over l.over_one l.words) ((l.first + l.w-index) * 64))
