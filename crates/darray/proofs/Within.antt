-- The index in the words that hold the bits: the lent part of them stays, and what a measure says to the caller that writes it. Assumes nothing.
use Rattle.std.specs.Prelude.{Ok}
use mathlib.Core.Path.{◌≡◌, refl, sym, ap, ◌∙◌}
use mathlib.Core.List.{List}
use mathlib.Core.Bool.{Bool, true, false}
use Prim.Native.Nat.{ℕ, ◌+◌, ◌^◌, ◌≤◌, ◌<◌}
use native.Mathlib.Nat.{lt_of_not-le}
use native.Mathlib.Decide.{dec_le}
use native.Mathlib.Omega.{arith}
use lib.ListN.{length, take, drop}
use lib.Seq.{take-add, take-take, drop_at, length-take-le}
use Rattle.bit_words.specs.Vector.{invalid}
use Rattle.darray_positions.specs.Positions.{positions}
use Rattle.darray_positions.specs.Index.{blocks, overflow}
use Rattle.darray.specs.Sizes.{Sized}
use Rattle.darray.specs.Queries.{unmeasured, of_measured, measure_of}
use Rattle.darray.specs.declared.inner.Sizes.{Sizes}
use Rattle.darray_positions.proofs.Index as index
use Rattle.darray.proofs.Cases as cases

-- a part that lies in the first words
pub part_same : (n m at : ℕ) (l l' : List ℕ) → n + m ≤ at → n ≤ length l → n ≤ length l' → take at l ≡ take at l' → take m (drop n l) ≡ take m (drop n l')
part_same n m at l l' h k k' e = by l k ∙ ap (λ (x : List ℕ). drop n (take (n + m) x)) e ∙ sym (by l' k')
  where
    by : (l : List ℕ) → n ≤ length l → take m (drop n l) ≡ drop n (take (n + m) (take at l))
    by l k = sym (ap (drop n) (take-take (n + m) at l h ∙ take-add n m l) ∙ drop_at (take n l) (take m (drop n l)) n (length-take-le n l k))

-- ---- what a measure says

module _ (b : Bool) (ws : List ℕ) (len : ℕ) (s : Sizes) (e : of_measured (Ok s) ≡ measure_of ws len b) where
  -- the bits are a vector, of fewer than 2^63
  pub measured_valid : (invalid ws len ≡ false) × (len < 2 ^ 63)
  measured_valid = go (invalid ws len) refl (dec_le (2 ^ 63) len)
    where
      no_sizes : (n : ℕ) → measure_of ws len b ≡ unmeasured n → ⊥
      no_sizes n h = let q = e ∙ h in let z : ◌≡◌ {A = ℕ} 0 1 = cc in omega arith

      go : (v : Bool) → invalid ws len ≡ v → Dec (2 ^ 63 ≤ len) → (invalid ws len ≡ false) × (len < 2 ^ 63)
      go true h d = absurd (no_sizes 13 (cases.measure_13 ws len b h))
      go false h (yes l) = absurd (no_sizes 2 (cases.measure_2 ws len b h l))
      go false h (no l) = (h, lt_of_not-le l)

  pub measured_sized : Sized (positions b ws len) s
  measured_sized =
      let P = positions b ws len in
      let q = e ∙ cases.measure_sizes ws len b measured_valid.0 measured_valid.1 in
      let o : s.overflow ≡ length (overflow P (blocks P)) = cc in
      record { positions = cc; entries = cc; lanes = cc; overflow = o ∙ index.length-overflow P (blocks P) }
