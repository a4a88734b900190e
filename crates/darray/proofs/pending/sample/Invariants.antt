-- `darray::pending::sample` meets its contract: the invariant says that those due before i are stored.
-- Assumes nothing.
use Rattle.std.proofs.Common.{◌≡◌, false, ℕ, ◌+◌, ◌-◌, ◌<◌, length, get_or}
use Rattle.bit_words.specs.Vector.{bit_over}
use Rattle.darray_positions.specs.Scan.{Position, Ahead}
use Rattle.darray.specs.Pending.{Due}
use Rattle.darray.proofs.pending.sample.Given as goal

abbrev pub invariant-loop-i : goal.invariant-loop-i
invariant-loop-i l =
    (l.i < l.size) × (length l.a ≡ 1024) × Due false l.i × Ahead (bit_over l.over_one l.words) l.at (l.k + l.i)
    × ((m : ℕ) → m < l.i → m < l.size → Due false m → Position (bit_over l.over_one l.words) (l.k + m) (get_or l.a m 0))

abbrev pub decreases-loop-i : goal.decreases-loop-i
decreases-loop-i l = l.size - l.i
