-- `darray_positions::scan::full_blocks` meets its contract: the invariant says that `overflow` counts what the blocks before j spill, and that they end before
-- the word `end`.
-- Assumes nothing.
use mathlib.Core.Path.{◌≡◌}
use Prim.Native.Nat.{◌-◌, ◌*◌, ◌≤◌}
use Rattle.broadword.specs.Bits.{count}
use Rattle.bit_words.specs.Vector.{bit_over}
use Rattle.darray_positions.specs.Positions.{positions}
use Rattle.darray_positions.specs.Index.{before}
use Rattle.darray_positions.specs.Scan.{Ahead}
use Rattle.darray_positions.proofs.scan.full_blocks.Given as goal

abbrev pub invariant-loop-first : goal.invariant-loop-first
invariant-loop-first l =
    (l.overflow ≡ before (positions l.over_one l.words l.len) l.j) × Ahead (bit_over l.over_one l.words) l.from (1024 * l.j) × (l.from.word ≤ l.end) × (1024 * l.j ≤ count (bit_over l.over_one l.words) (l.end * 64))

abbrev pub decreases-loop-first : goal.decreases-loop-first
decreases-loop-first l = l.end * 64 - l.j
