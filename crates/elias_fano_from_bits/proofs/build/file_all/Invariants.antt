-- `elias_fano_from_bits::build::file_all` meets its contract: the invariant says that the first i places are filed, and that the walk has taken their ones.
-- Assumes nothing.
use mathlib.Core.Path.{◌≡◌}
use lib.ListN.{length, take}
use Rattle.elias_fano_words.specs.Times.{last_of}
use Rattle.elias_fano_from_bits.specs.Building.{OnesTaken}
use Rattle.elias_fano_from_bits.specs.FromBits.{ones_of}
use Rattle.elias_fano_from_bits.proofs.Filing.{filed_first}
use Rattle.elias_fano_from_bits.proofs.build.file_all.Given as goal

abbrev pub invariant-loop-i : goal.invariant-loop-i
invariant-loop-i l =
    (length l.buffer ≡ length l.initial.buffer) × (l.buffer ≡ filed_first l.words l.len l.initial.buffer l.i) × OnesTaken l.words l.len l.i l.w × (l.last ≡ last_of (take l.i (ones_of l.words l.len)))
