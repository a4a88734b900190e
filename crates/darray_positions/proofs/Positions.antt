-- Laws of `places`: the position with the number k is the place that `select` finds, and positions rise. Assumes nothing.
use Rattle.std.specs.Prelude.{Some}
use mathlib.Core.Path.{◌≡◌, refl, sym, ap, ◌∙◌, subst}
use mathlib.Core.List.{[], ◌∷◌}
use mathlib.Core.Logic.{◌⊎◌, ⊎_elim}
use Prim.Native.Nat.{ℕ, zero, suc, ◌+◌, ◌≤◌, ◌<◌}
use native.Mathlib.Nat.{not-suc-le-zero, eq-or-lt_of_le, le_of_suc-le-suc, le_of_lt, lt_of_not-le}
use native.Mathlib.Decide.{ℕ_discrete}
use native.Mathlib.Omega.{arith}
use borrow.Author.Tests.{eq-eqb, ne_eqb}
use lib.ListN.{length, get_or, length-append, get_or-append}
use lib.Seq.{get_or_at}
use Rattle.broadword.specs.Bits.{count}
use Rattle.broadword.specs.Places.{select}
use Rattle.broadword.proofs.Count.{count_mono}
use Rattle.broadword.proofs.Find.{Selected, select_at, select_some}
use Rattle.darray_positions.specs.Positions.{places}

-- where more ones stand below n than below i, i is below n
pub below : (f : ℕ → ℕ) (i n : ℕ) → count f i < count f n → i < n
below f i n h = lt_of_not-le (λ (g : n ≤ i). omega (arith, count_mono f n i g))

module _ (f : ℕ → ℕ) (bits : (i : ℕ) → f i ≤ 1) where
  pub length-places : (n : ℕ) → length (places f n) ≡ count f n
  unfolding places count
  length-places zero = refl
  length-places (suc n) = by_bit (length-places n) (ℕ_discrete (f n) 1)
    where
      by_bit : length (places f n) ≡ count f n → Dec (f n ≡ 1) → length (places f (suc n)) ≡ count f (suc n)
      by_bit ih (yes e) = rw (eq-eqb (f n) 1 e) (length-append (places f n) (n ∷ []) ∙ omega arith)
      by_bit ih (no e) = rw (ne_eqb (f n) 1 e) (omega (arith, bits n))

  -- a place at which f is 1 and before which k ones stand is the position with the number k
  pub place_is : (n k i : ℕ) → f i ≡ 1 → count f i ≡ k → k < count f n → get_or (places f n) k 0 ≡ i
  unfolding places count
  place_is zero k i e r h = absurd (not-suc-le-zero h)
  place_is (suc n) k i e r h = by_bit (place_is n k i e r) (ℕ_discrete (f n) 1) (eq-or-lt_of_le (le_of_suc-le-suc (below f i (suc n) (subst (λ (x : ℕ). x < count f n + f n) (sym r) h))))
    where
      by_bit : (k < count f n → get_or (places f n) k 0 ≡ i) → Dec (f n ≡ 1) → (i ≡ n) ⊎ (i < n) → get_or (places f (suc n)) k 0 ≡ i
      by_bit ih (yes p) w =
          rw (eq-eqb (f n) 1 p)
          (⊎_elim
          (λ (q : i ≡ n). get_or_at (places f n) n [] 0 k (length-places n ∙ ap (count f) (sym q) ∙ r) ∙ sym q)
          (λ (l : i < n). let m : k < count f n = omega (arith, count_mono f (suc i) n l) in get_or-append (places f n) (n ∷ []) 0 k (omega (arith, length-places n)) ∙ ih m)
          w)
      by_bit ih (no p) w =
          rw (ne_eqb (f n) 1 p)
          (⊎_elim
          (λ (q : i ≡ n). absurd (p (ap f (sym q) ∙ e)))
          (λ (l : i < n). ih (omega (arith, count_mono f (suc i) n l)))
          w)

  -- what the position with the number k has
  pub place_has : (n k : ℕ) → k < count f n → Selected f n k (get_or (places f n) k 0)
  place_has n k h =
      let s = select_some f n k bits h in
      subst (λ (i : ℕ). Selected f n k i) (sym (place_is n k s.0 s.1.one s.1.before h)) s.1

  -- it is the place that `select` finds
  pub place_select : (n k : ℕ) → k < count f n → select f n k ≡ Some (get_or (places f n) k 0)
  place_select n k h = let s = place_has n k h in select_at f n k (get_or (places f n) k 0) s.within s.one s.before

  -- positions rise with their numbers
  pub place_rises : (n j k : ℕ) → j < k → k < count f n → get_or (places f n) j 0 < get_or (places f n) k 0
  place_rises n j k l h =
      let p = place_has n j (omega arith) in
      let q = place_has n k h in
      below f (get_or (places f n) j 0) (get_or (places f n) k 0) (omega arith)

  pub place_mono : (n j k : ℕ) → j ≤ k → k < count f n → get_or (places f n) j 0 ≤ get_or (places f n) k 0
  place_mono n j k l h =
      ⊎_elim (λ (e : j ≡ k). omega (arith, ap (λ (i : ℕ). get_or (places f n) i 0) e)) (λ (g : j < k). le_of_lt (place_rises n j k g h)) (eq-or-lt_of_le l)
