-- `elias_fano_words::check::in_order` meets its contract: the invariant says that the low bits rise at the neighbours before the word i.
-- Assumes nothing.
use Rattle.std.proofs.Common.{◌≡◌, ◌*◌}
use Rattle.broadword.specs.Bits.{count}
use Rattle.bit_words.specs.Vector.{bit_at}
use Rattle.elias_fano_words.proofs.Pairs.{Risen}
use Rattle.elias_fano_words.proofs.check.in_order.Given as goal

abbrev pub invariant-loop-i : goal.invariant-loop-i
invariant-loop-i l = (l.before ≡ count (bit_at l.high) (l.i * 64)) × Risen l.strict l.l l.high l.low (l.i * 64)
