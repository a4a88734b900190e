-- The place of a number's highest one, as `last` of its bits, and the powers that the number is between. Assumes nothing.
use Rattle.std.specs.Prelude.{Some, None}
use mathlib.Core.Path.{◌≡◌, ◌∙◌, subst, subst⁻¹}
use Prim.Native.Nat.{ℕ, ◌+◌, ◌/◌, ◌^◌, ◌≤◌, ◌<◌}
use native.Mathlib.Nat.{lt_of_le_of_lt, lt_of_lt_of_le, div-le_self, div-lt_iff_lt-mul, one-mul, lt_of_not-le}
use native.Mathlib.Decide.{dec_lt}
use native.Mathlib.Omega.{arith}
use lib.Dec.{lit<}
use lib.Pow.{pow_pos, pow_mono}
use Rattle.broadword.specs.Bits.{bit}
use Rattle.broadword.specs.Places.{last}
use Rattle.broadword.proofs.Count.{bit_le, bit-above, bit_shift}
use Rattle.broadword.proofs.Find.{last_is, last_nothing}
use Rattle.bit_words.proofs.Last.{not_one, no_bits}

-- a number is below the power after its highest one
below_next : (q i : ℕ) → q < 2 ^ 64 → last (bit q) 64 ≡ Some i → q < 2 ^ (i + 1)
below_next q i h e =
    let r = last_is (bit q) 64 i e in
    let w : ℕ = q / 2 ^ (i + 1) in
    let z : w ≡ 0 = no_bits w (lt_of_le_of_lt (div-le_self q (2 ^ (i + 1))) h) (λ j l. bit_shift q (i + 1) j ∙ high j (dec_lt (i + 1 + j) 64)) in
    subst (λ (y : ℕ). q < y) (one-mul (2 ^ (i + 1))) ((div-lt_iff_lt-mul (pow_pos (i + 1))).0 (subst⁻¹ (λ (y : ℕ). y < 1) z (lit< tt)))
  where
    high : (j : ℕ) → Dec (i + 1 + j < 64) → bit q (i + 1 + j) ≡ 0
    high j (yes l) = not_one (bit q (i + 1 + j)) (bit_le q (i + 1 + j)) ((last_is (bit q) 64 i e).after (i + 1 + j) (omega arith) l)
    high j (no g) = bit-above q (i + 1 + j) (lt_of_lt_of_le h (pow_mono {i = 64} (omega (arith, lt_of_not-le g))))

-- one that has none is 0
pub none_zero : (q : ℕ) → q < 2 ^ 64 → last (bit q) 64 ≡ None → q ≡ 0
none_zero q h e = no_bits q h (λ j l. not_one (bit q j) (bit_le q j) (last_nothing (bit q) 64 e j l))

-- one that has some is at least the power of its highest
least : (q i : ℕ) → last (bit q) 64 ≡ Some i → 2 ^ i ≤ q
least q i e = go (dec_lt q (2 ^ i))
  where
    go : Dec (q < 2 ^ i) → 2 ^ i ≤ q
    go (yes l) = let a = bit-above q i l in let b = (last_is (bit q) 64 i e).one in absurd (omega arith)
    go (no g) = let l = lt_of_not-le g in omega arith

pub record Highest (x i : ℕ) : Type 0 where
  pub low : 2 ^ i ≤ x
  pub high : x < 2 ^ (i + 1)
  pub small : i < 64

pub highest : (x i : ℕ) → x < 2 ^ 64 → last (bit x) 64 ≡ Some i → Highest x i
highest x i h e = record { low = least x i e; high = below_next x i h e; small = (last_is (bit x) 64 i e).within }
