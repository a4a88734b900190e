-- Which positions of a block are stored where not all are needed. Assumes nothing.
use mathlib.Core.List.{List}
use mathlib.Core.Bool.{Bool, true, false}
use Prim.Native.Nat.{ℕ, ◌+◌, ◌-◌, ◌*◌, ◌≤◌, ◌<◌}
use native.Mathlib.Omega.{arith}
use lib.ListN.{get_or}
use Rattle.darray.specs.Pending.{Due, Sampled}
use Rattle.darray_positions.proofs.Blocks.{position_le}

pub due_32 : (w : Bool) (i : ℕ) → Due w (32 * i)
due_32 true i = tt
due_32 false i = omega arith

pub due_0 : (w : Bool) → Due w 0
due_0 true = tt
due_0 false = omega arith

-- ---- a block that is loaded

-- the first of the stored positions is not past the last
pub sampled_rises : (f : ℕ → ℕ) (k size : ℕ) (w : Bool) (a : List ℕ) → 0 < size → Sampled f k size w a → get_or a 0 0 ≤ get_or a (size - 1) 0
sampled_rises f k size w a h s = position_le f (k + 0) (k + (size - 1)) (get_or a 0 0) (get_or a (size - 1) 0) (s.stored 0 h (due_0 w)) s.last (omega arith)
