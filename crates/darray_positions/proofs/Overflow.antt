-- How many positions an index has in its overflow list: a block that overflows has at most 1,024 of them over at least 65,537 places, and no two blocks share a place, so
-- each of them has 64 places of its own. Assumes nothing.
use mathlib.Core.Path.{◌≡◌, refl, subst}
use mathlib.Core.List.{List}
use mathlib.Core.Bool.{Bool, true, false}
use Prim.Native.Nat.{ℕ, zero, suc, ◌+◌, ◌-◌, ◌*◌, ◌/◌, ◌≤◌, ◌<◌}
use native.Mathlib.Omega.{arith}
use borrow.Author.Tests.{leb-true}
use lib.ListN.{length}
use Rattle.bit_words.specs.Vector.{bit_over}
use Rattle.bit_words.proofs.Runs.{bit_over_le}
use Rattle.darray_positions.specs.Index.{pos, blocks, size, wide, before}
use Rattle.darray_positions.specs.Positions.{positions}
use Rattle.darray_positions.proofs.Index as index
use Rattle.darray_positions.proofs.Index.{Rising}
use Rattle.darray_positions.proofs.Positions as places

module _ (P : List ℕ) (r : Rising P) where
  -- as many places as the overflow positions need stand before the first position of a block; so they do before its last, with its own
  through : (j : ℕ) → j < blocks P → 64 * before P j ≤ pos P (1024 * j) → 64 * before P (suc j) ≤ pos P (1024 * j + (size P j - 1))
  unfolding wide
  through j h before-it = by (wide P j) refl
    where
      last_in : 1024 * j + (size P j - 1) < length P
      last_in = index.size_in P j (size P j - 1) (omega (arith, index.size-pos P j h))

      by : (w : Bool) → wide P j ≡ w → 64 * before P (suc j) ≤ pos P (1024 * j + (size P j - 1))
      by true e = omega (arith, index.before_next P j, index.spill-wide P j e, index.size_le P j, leb-true 65536 (pos P (1024 * j + (size P j - 1)) - pos P (1024 * j)) e, before-it)
      by false e = omega (arith, index.before_next P j, index.spill_near P j e, r (1024 * j) (1024 * j + (size P j - 1)) (omega arith) last_in, before-it)

  before_first : (j : ℕ) → j < blocks P → 64 * before P j ≤ pos P (1024 * j)
  before_first zero h = omega (arith, index.before_none P)
  before_first (suc j) h = go (before_first j)
    where
      go : (j < blocks P → 64 * before P j ≤ pos P (1024 * j)) → 64 * before P (suc j) ≤ pos P (1024 * suc j)
      go ih =
          let l : j < blocks P = omega arith in
          let s = index.size_in P (suc j) 0 (index.size-pos P (suc j) h) in
          omega (arith, through j l (ih l), r (1024 * j + (size P j - 1)) (1024 * suc j) (omega (arith, index.size_le P j)) (omega (arith, s)))

  -- of positions below len
  most : (len : ℕ) → ((k : ℕ) → k < length P → pos P k < len) → 64 * before P (blocks P) ≤ len
  most len below = by (blocks P) refl
    where
      by : (b : ℕ) → blocks P ≡ b → 64 * before P b ≤ len
      by zero e = omega (arith, index.before_none P)
      by (suc j) e =
          let h : j < blocks P = omega arith in
          omega (arith, through j h (before_first j h), below (1024 * j + (size P j - 1)) (index.size_in P j (size P j - 1) (omega (arith, index.size-pos P j h))))

-- an index over len bits has at most len / 64 positions in its overflow list
pub overflow_most : (b : Bool) (ws : List ℕ) (len : ℕ) → before (positions b ws len) (blocks (positions b ws len)) ≤ len / 64
unfolding pos
overflow_most b ws len =
    let P = positions b ws len in
    let f = bit_over b ws in
    let m = most P (index.rising b ws len) len (λ k h. (places.place_has f (bit_over_le b ws) len k (subst (λ (n : ℕ). k < n) (places.length-places f (bit_over_le b ws) len) h)).within) in
    omega (arith, m)
