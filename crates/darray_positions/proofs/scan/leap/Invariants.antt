-- `darray_positions::scan::leap` meets its contract: the invariant says that `before` is the count below the word.
-- Assumes nothing.
use Rattle.std.proofs.Common.{◌≡◌, ◌-◌, ◌*◌, ◌%◌, ◌≤◌}
use Rattle.broadword.specs.Bits.{count}
use Rattle.bit_words.specs.Vector.{bit_over}
use Rattle.darray_positions.proofs.scan.leap.Given as goal

abbrev pub invariant-loop-word : goal.invariant-loop-word
invariant-loop-word l =
    (l.before ≡ count (bit_over l.over_one l.words) (l.word * 64)) × (l.before ≤ l.k) × (l.fn.from.word ≤ l.word) × (l.word ≤ l.whole) × ((l.whole - l.word) % 8 ≡ 0)

abbrev pub decreases-loop-word : goal.decreases-loop-word
decreases-loop-word l = l.whole - l.word
