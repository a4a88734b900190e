-- `bit_vectors::unary::skip_zeros` meets its contract. The invariant: there is no one in the words passed.
-- Assumes nothing.
use Rattle.std.proofs.Common.{◌≡◌, true, ◌*◌}
use Rattle.broadword.specs.Bits.{count}
use Rattle.bit_words.specs.Vector.{bit_over}
use Rattle.bit_vectors.proofs.unary.skip_zeros.Given as goal

abbrev pub invariant-loop-word : goal.invariant-loop-word
invariant-loop-word l = count (bit_over true l.words) (l.word * 64) ≡ count (bit_over true l.words) (l.first * 64)
