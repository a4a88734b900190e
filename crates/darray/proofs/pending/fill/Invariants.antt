-- `darray::pending::fill` meets its contract: the invariant says that the first c positions are stored, and that the word's rest has the next ones.
-- Assumes nothing.
use mathlib.Core.Path.{◌≡◌}
use Prim.Native.Nat.{ℕ, ◌+◌, ◌-◌, ◌≤◌, ◌<◌}
use lib.ListN.{length, get_or}
use Rattle.bit_words.specs.Vector.{bit_over}
use Rattle.darray_positions.specs.Scan.{Position}
use Rattle.darray.proofs.Taking.{Left}
use Rattle.darray.proofs.pending.fill.Given as goal

abbrev pub invariant-loop-c : goal.invariant-loop-c
invariant-loop-c l =
    (l.c ≤ l.size) × (length l.a ≡ 1024) × Left l.over_one l.words l.word l.left (l.k + l.c) × ((i : ℕ) → i < l.c → Position (bit_over l.over_one l.words) (l.k + i) (get_or l.a i 0))

abbrev pub decreases-loop-c : goal.decreases-loop-c
decreases-loop-c l = l.size - l.c + (length l.words - l.word)
