-- In a run whose counts rise, how many counts are at most k says where the count passes k. Assumes nothing.
use mathlib.Core.Path.{◌≡◌, subst, subst⁻¹}
use Prim.Native.Nat.{ℕ, zero, suc, ◌+◌, ◌≤◌, ◌<◌, zero-le, suc-le-suc}
use native.Mathlib.Nat.{le_refl, le_step, le_of_lt, lt_of_lt_of_le, lt_of_not-le, lt_irrefl, not-le_of_lt, not-suc-le-zero}
use native.Mathlib.Decide.{dec_le, dec_lt}
use native.Mathlib.Omega.{arith}
use Rattle.broadword.specs.Bits.{count}
use Rattle.broadword.proofs.Count.{count_mono}

module _ (c b : ℕ → ℕ) (k : ℕ)
    (yes-b : (i : ℕ) → count c (suc i) ≤ k → b i ≡ 1)
    (no-b : (i : ℕ) → k < count c (suc i) → b i ≡ 0) where
  abbrev pub Passed : ℕ → ℕ → Type 0
  Passed n j = (j ≤ n) × (count c j ≤ k) × (j < n → k < count c (suc j))

  step : (n j : ℕ) → Passed n j → Dec (count c (suc n) ≤ k) → Passed (suc n) (j + b n)
  step n j p (yes l) = all (dec_lt j n)
    where
      all : Dec (j < n) → Passed (suc n) (j + b n)
      all (yes g) = absurd (not-le_of_lt (lt_of_lt_of_le (p.2 g) (count_mono c (suc j) (suc n) (le_of_lt (suc-le-suc g)))) l)
      all (no g) =
          let e : j + b n ≡ suc n = omega (arith, yes-b n l) in
          subst⁻¹ (λ (m : ℕ). Passed (suc n) m) e (le_refl (suc n), l, λ h. absurd (lt_irrefl (suc n) h))
  step n j p (no g) =
      let over : k < count c (suc n) = lt_of_not-le g in
      let e : j + b n ≡ j = omega (arith, no-b n over) in
      subst⁻¹ (λ (m : ℕ). Passed (suc n) m) e (le_step p.0, p.1, λ h. past (dec_lt j n))
    where
      past : Dec (j < n) → k < count c (suc j)
      past (yes l) = p.2 l
      past (no q) = let e : n ≡ j = omega (arith, p.0) in subst (λ (m : ℕ). k < count c (suc m)) e (lt_of_not-le g)

  pub passed : (n : ℕ) → Passed n (count b n)
  unfolding count
  passed zero = (zero-le, zero-le, λ h. absurd (not-suc-le-zero h))
  passed (suc n) = step n (count b n) (passed n) (dec_le (count c (suc n)) k)
