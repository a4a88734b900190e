-- Bounds on a record's sizes: l is below 64, u / 2 ^ l below 2 n, and so the high length at most 3 n + 1. Assumes nothing.
use Rattle.std.specs.Prelude.{Some, None, Option, unwrap_or}
use mathlib.Core.Path.{◌≡◌, refl, ap, ◌∙◌, subst, subst⁻¹}
use Prim.Native.Nat.{ℕ, ◌+◌, ◌*◌, ◌/◌, ◌^◌, ◌≤◌, ◌<◌}
use native.Mathlib.Nat.{mul-le-mul, lt_of_le_of_lt, div-le_self, div-lt_iff_lt-mul}
use native.Mathlib.Omega.{arith}
use lib.Dec.{lit<}
use lib.Pow.{pow_pos, pow-add}
use Rattle.broadword.specs.Bits.{bit}
use Rattle.broadword.specs.Places.{last}
use Rattle.elias_fano_words.specs.Sizes.{low_len, high_len}
use Rattle.elias_fano_words.proofs.Highest.{highest, none_zero}

module _ (u n : ℕ) (hu : u < 2 ^ 64) (hn : 0 < n) where
  quotient_lt : u / n < 2 ^ 64
  quotient_lt = lt_of_le_of_lt (div-le_self u n) hu

  -- l is below 64, and the quotient below 2 ^ (l + 1)
  low_by : (a : Option ℕ) → last (bit (u / n)) 64 ≡ a → (unwrap_or a 0 < 64) × (u / n < 2 ^ (unwrap_or a 0 + 1))
  low_by (Some i) e = let h = highest (u / n) i quotient_lt e in (h.small, h.high)
  low_by None e = let z = none_zero (u / n) quotient_lt e in (lit< tt, omega arith)

  low_facts : (low_len u n < 64) × (u / n < 2 ^ (low_len u n + 1))
  unfolding low_len
  low_facts = low_by (last (bit (u / n)) 64) refl

  pub low_lt : low_len u n < 64
  low_lt = low_facts.0

  pub high_lt : u / 2 ^ low_len u n < 2 * n
  high_lt =
      let l : ℕ = low_len u n in
      let a : u < 2 ^ (l + 1) * n = (div-lt_iff_lt-mul hn).0 low_facts.1 in
      let e : 2 ^ (l + 1) * n ≡ 2 * n * 2 ^ l = (let p : 2 ^ (l + 1) ≡ 2 ^ l * 2 = pow-add 2 l 1 in ap (λ (y : ℕ). y * n) p ∙ (let d : (P : ℕ) → P * 2 * n ≡ 2 * n * P = λ P. omega arith in d (2 ^ l))) in
      (div-lt_iff_lt-mul (pow_pos l)).1 (subst (λ (y : ℕ). u < y) e a)

  pub high_le : high_len u n ≤ 3 * n + 1
  unfolding high_len
  high_le = let h = high_lt in omega arith

  -- the sums and products of a program stay in range
  module _ (few : n ≤ 16777216) (l : ℕ) (e : l ≡ low_len u n) where
    pub low_product : n * l ≤ 16777216 * 63
    low_product = let h = low_lt in let k : l ≤ 63 = omega arith in mul-le-mul few k

    pub high_bound : n + 2 + u / 2 ^ l ≤ 3 * 16777216 + 1
    high_bound = let g : u / 2 ^ l < 2 * n = subst⁻¹ (λ (k : ℕ). u / 2 ^ k < 2 * n) e high_lt in omega arith
