-- `darray::inner::overflow_of` meets its contract: the invariant says that `overflow` counts what the blocks before j spill.
-- Assumes nothing.
use Rattle.std.proofs.Common.{◌≡◌, ◌*◌}
use Rattle.bit_words.specs.Vector.{bit_over}
use Rattle.darray_positions.specs.Positions.{positions}
use Rattle.darray_positions.specs.Index.{before}
use Rattle.darray_positions.specs.Scan.{Ahead}
use Rattle.darray.proofs.inner.overflow_of.Given as goal

abbrev pub invariant-loop-j : goal.invariant-loop-j
invariant-loop-j l =
    (l.overflow ≡ before (positions l.over_one l.words l.len) l.j) × Ahead (bit_over l.over_one l.words) l.at (1024 * l.j)
