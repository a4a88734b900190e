-- `elias_fano_from_bits::measure::overflow_of` meets its contract: the invariant says that `overflow` counts what the blocks before j spill, and that the mark has not
-- passed the block j.
-- Assumes nothing.
use mathlib.Core.Path.{◌≡◌}
use Prim.Native.Nat.{◌*◌}
use Rattle.darray_positions.specs.Index.{before}
use Rattle.elias_fano_from_bits.specs.Building.{positions_of, Marked, Upto}
use Rattle.elias_fano_from_bits.proofs.measure.overflow_of.Given as goal

abbrev pub invariant-loop-j : goal.invariant-loop-j
invariant-loop-j l =
    (l.overflow ≡ before (positions_of l.words l.len l.over_one) l.j) × Marked l.words l.len l.from × Upto l.over_one l.l l.from (1024 * l.j)
