-- No image is longer than the limit of its settings, and the limit of a record is in range. Assumes nothing.
use mathlib.Core.Path.{◌≡◌, refl, ap, ◌∙◌, subst⁻¹}
use mathlib.Core.List.{List}
use mathlib.Core.Bool.{Bool, true, false, cond}
use Prim.Native.Nat.{ℕ, ◌+◌, ◌-◌, ◌*◌, ◌^◌, ◌≤◌, ◌<◌, zero-le}
use native.Mathlib.Nat.{le_refl, mul-le-mul}
use native.Mathlib.Omega.{arith}
use lib.ListN.{length}
use Rattle.bit_words.specs.Vector.{words_for}
use Rattle.darray_positions.specs.Index.{blocks}
use Rattle.darray_positions.proofs.Index.{length-overflow}
use Rattle.darray_positions.proofs.Overflow.{overflow_most}
use Rattle.elias_fano_words.specs.Sizes.{low_len, high_len, low_at, start_len, sizes_of, index_len, image_len, overflow_limit, limit}
use Rattle.elias_fano_words.specs.Image.{spilled, high_words, high_positions, image}
use Rattle.elias_fano_words.specs.Times.{rising}
use Rattle.elias_fano_words.specs.declared.sizes.Sizes.{Sizes}
use Rattle.elias_fano_words.proofs.Bounds.{high_le, low_product}
use Rattle.elias_fano_words.proofs.Lengths.{image-length}

-- an index of the high bits has at most so many positions in its overflow list
pub spilled_most : (u n : ℕ) (b : Bool) (T : List ℕ) → spilled (high_positions u n b T) ≤ overflow_limit (high_len u n)
spilled_most u n b T = omega (arith, length-overflow (high_positions u n b T) (blocks (high_positions u n b T)), overflow_most b (high_words u n T) (high_len u n))

-- longer lists have longer indexes
index_mono : (k j o p : ℕ) → k ≤ j → o ≤ p → index_len k o ≤ index_len j p
index_mono k j o p h g = omega arith

sum_le : (x a b d a' b' d' : ℕ) → a ≤ a' → b ≤ b' → d ≤ d' → x + a + b + d ≤ x + a' + b' + d'
sum_le x a b d a' b' d' e f g = omega arith

module _ (u n : ℕ) (T : List ℕ) (r : rising u 0 T ≡ true) (few : length T ≤ n) where
  low_le : words_for (length T * low_len u n) ≤ words_for (n * low_len u n)
  low_le = let p : length T * low_len u n ≤ n * low_len u n = mul-le-mul few (le_refl (low_len u n)) in omega arith

  ones_le : index_len (length T) (spilled (high_positions u n true T)) ≤ index_len n (overflow_limit (high_len u n))
  ones_le = index_mono (length T) n _ _ few (omega (arith, spilled_most u n true T))

  zeros_le : (c : Bool) → cond c (index_len (high_len u n - length T) (cond c (spilled (high_positions u n false T)) 0)) 0 ≤ cond c (index_len (high_len u n) (overflow_limit (high_len u n))) 0
  zeros_le true = index_mono (high_len u n - length T) (high_len u n) _ _ (omega arith) (omega (arith, spilled_most u n false T))
  zeros_le false = omega arith

  pub image_most : (c : Bool) → length (image u n c T) ≤ limit u n c
  unfolding limit start_len
  image_most c = subst⁻¹ (λ (x : ℕ). x ≤ limit u n c) (image-length u n T r few c) (sum_le (low_at u n) _ _ _ _ _ _ low_le ones_le (zeros_le c))

-- ---- numbers of a program

pub if_le : (c : Bool) (x : ℕ) → cond c x 0 ≤ x
if_le true x = le_refl x
if_le false x = zero-le

pub image_len_is : (s : Sizes) (m : ℕ) (c : Bool) (ones zeros a b d : ℕ) → a ≡ words_for (m * s.low_len) → b ≡ index_len m ones → d ≡ cond c (index_len (s.high_len - m) zeros) 0
    → (u n : ℕ) → s ≡ sizes_of u n → s.low_at + a + b + d ≡ image_len u n m c ones zeros
image_len_is s m c ones zeros a b d ea eb ed u n e =
    (λ i. s.low_at + ea i + eb i + ed i) ∙ ap (λ (x : Sizes). x.low_at + words_for (m * x.low_len) + index_len m ones + cond c (index_len (x.high_len - m) zeros) 0) e

pub limit_is : (s : Sizes) (n : ℕ) (c : Bool) (a b : ℕ) → a ≡ index_len n (overflow_limit s.high_len) → b ≡ cond c (index_len s.high_len (overflow_limit s.high_len)) 0
    → (u : ℕ) → s ≡ sizes_of u n → s.start_len + a + b ≡ limit u n c
unfolding limit
limit_is s n c a b ea eb u e =
    (λ i. s.start_len + ea i + eb i) ∙ ap (λ (x : Sizes). x.start_len + index_len n (overflow_limit x.high_len) + cond c (index_len x.high_len (overflow_limit x.high_len)) 0) e

module _ (u n : ℕ) (hu : u < 2 ^ 64) (some : 0 < n) (most : n ≤ 16777216) (s : Sizes) (e : s ≡ sizes_of u n) where
  pub limit_ready : (s.start_len < 2 ^ 32) × (s.high_len < 2 ^ 32) × (n < 2 ^ 32)
  unfolding start_len
  limit_ready =
      let h = high_le u n hu some in
      let p = low_product u n hu some most (low_len u n) refl in
      subst⁻¹ (λ (x : Sizes). (x.start_len < 2 ^ 32) × (x.high_len < 2 ^ 32) × (n < 2 ^ 32)) e (omega arith, omega arith, omega arith)
