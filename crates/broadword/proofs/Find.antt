-- Laws of `last` and `select`. Assumes nothing.
use Rattle.std.specs.Prelude.{Some, None}
use mathlib.Core.Path.{◌≡◌, refl, sym, ap, ◌∙◌}
use mathlib.Core.Bool.{Bool, true, false, ◌&&◌}
use mathlib.Core.Logic.{⊎_elim}
use Prim.Native.Nat.{ℕ, zero, suc, ◌≤◌, ◌<◌}
use native.Mathlib.Nat.{eq-or-lt_of_le, le_of_suc-le-suc, not-suc-le-zero, le_step, lt-suc_self}
use native.Mathlib.Decide.{ℕ_discrete, dec_lt}
use native.Mathlib.Omega.{arith}
use borrow.Author.Tests.{eq-eqb, ne_eqb}
use Rattle.broadword.specs.Bits.{count}
use Rattle.broadword.specs.Places.{last, select}
use Rattle.broadword.proofs.Count.{count_mono}

and_false : (b : Bool) → (b && false) ≡ false
and_false true = refl
and_false false = refl

pub last_at : (f : ℕ → ℕ) (n i : ℕ) → i < n → f i ≡ 1 → ((j : ℕ) → i < j → j < n → f j ≡ 0) → last f n ≡ Some i
unfolding last
last_at f zero i h e z = absurd (not-suc-le-zero h)
last_at f (suc n) i h e z =
    ⊎_elim
    (λ (p : i ≡ n). rw (eq-eqb (f n) 1 (ap f (sym p) ∙ e)) (ap Some (sym p)))
    (λ l. rw (ne_eqb (f n) 1 (λ q. omega (arith, z n l (lt-suc_self n)))) (last_at f n i l e (λ j a b. z j a (le_step b))))
    (eq-or-lt_of_le (le_of_suc-le-suc h))

pub last_none : (f : ℕ → ℕ) (n : ℕ) → ((j : ℕ) → j < n → f j ≡ 0) → last f n ≡ None
unfolding last
last_none f zero z = refl
last_none f (suc n) z = rw (ne_eqb (f n) 1 (λ q. omega (arith, z n (lt-suc_self n)))) (last_none f n (λ j a. z j (le_step a)))

pub select_at : (f : ℕ → ℕ) (n k i : ℕ) → i < n → f i ≡ 1 → count f i ≡ k → select f n k ≡ Some i
unfolding select
select_at f zero k i h e r = absurd (not-suc-le-zero h)
select_at f (suc n) k i h e r =
    ⊎_elim
    (λ (p : i ≡ n). rw (eq-eqb (f n) 1 (ap f (sym p) ∙ e), eq-eqb (count f n) k (ap (count f) (sym p) ∙ r)) (ap Some (sym p)))
    (λ l. rw (ne_eqb (count f n) k (λ q. omega (arith, count_mono f (suc i) n l))) (rw and_false (select_at f n k i l e r)))
    (eq-or-lt_of_le (le_of_suc-le-suc h))

-- no more than k ones: the place that k ones stand before is not there
pub select_none : (f : ℕ → ℕ) (n k : ℕ) → count f n ≤ k → select f n k ≡ None
unfolding select
select_none f zero k h = refl
select_none f (suc n) k h = missed (select_none f n k (omega arith)) (ℕ_discrete (f n) 1)
  where
    missed : select f n k ≡ None → Dec (f n ≡ 1) → select f (suc n) k ≡ None
    missed ih (yes p) = rw (ne_eqb (count f n) k (λ q. omega arith)) (rw and_false ih)
    missed ih (no q) = rw (ne_eqb (f n) 1 q) ih

-- what a place found says
pub record Selected (f : ℕ → ℕ) (n k i : ℕ) : Type 0 where
  pub within : i < n
  pub one : f i ≡ 1
  pub before : count f i ≡ k

pub selected : (f : ℕ → ℕ) (n k i : ℕ) → select f n k ≡ Some i → Selected f n k i
unfolding select
selected f zero k i e = let z : ◌≡◌ {A = ℕ} 0 1 = cc in omega arith
selected f (suc n) k i e = test (selected f n k i) (ℕ_discrete (f n) 1) (ℕ_discrete (count f n) k)
  where
    test : (select f n k ≡ Some i → Selected f n k i) → Dec (f n ≡ 1) → Dec (count f n ≡ k) → Selected f (suc n) k i
    test ih (yes p) (yes q) =
        let r : n ≡ i = let h = rw (eq-eqb (f n) 1 p, eq-eqb (count f n) k q) at e in cc in
        record { within = omega arith; one = ap f (sym r) ∙ p; before = ap (count f) (sym r) ∙ q }
    test ih (yes p) (no q) =
        let s = ih (rw and_false at (rw (ne_eqb (count f n) k q) at e)) in
        record { within = omega arith; one = s.one; before = s.before }
    test ih (no p) d =
        let s = ih (rw (ne_eqb (f n) 1 p) at e) in
        record { within = omega arith; one = s.one; before = s.before }

-- where more than k ones stand, one has k before it
pub select_some : (f : ℕ → ℕ) (n k : ℕ) → ((i : ℕ) → f i ≤ 1) → k < count f n → (i : ℕ) × Selected f n k i
unfolding count
select_some f zero k b h = absurd (not-suc-le-zero h)
select_some f (suc n) k b h = split (select_some f n k b) (dec_lt k (count f n))
  where
    split : (k < count f n → (i : ℕ) × Selected f n k i) → Dec (k < count f n) → (i : ℕ) × Selected f (suc n) k i
    split ih (yes l) = let s = ih l in (s.0, record { within = omega (arith, s.1.within); one = s.1.one; before = s.1.before })
    split ih (no g) = (n, record { within = lt-suc_self n; one = omega (arith, b n); before = omega (arith, b n) })

-- what a last place says
pub record LastAt (f : ℕ → ℕ) (n i : ℕ) : Type 0 where
  pub within : i < n
  pub one : f i ≡ 1
  pub after : (j : ℕ) → i < j → j < n → f j ≡ 1 → ⊥

pub last_is : (f : ℕ → ℕ) (n i : ℕ) → last f n ≡ Some i → LastAt f n i
unfolding last
last_is f zero i e = let z : ◌≡◌ {A = ℕ} 0 1 = cc in omega arith
last_is f (suc n) i e = test (last_is f n i) (ℕ_discrete (f n) 1)
  where
    test : (last f n ≡ Some i → LastAt f n i) → Dec (f n ≡ 1) → LastAt f (suc n) i
    test ih (yes p) =
        let r : n ≡ i = let h = rw (eq-eqb (f n) 1 p) at e in cc in
        record { within = omega arith; one = ap f (sym r) ∙ p; after = λ j a b _. omega arith }
    test ih (no p) =
        let s = ih (rw (ne_eqb (f n) 1 p) at e) in
        record {
          within = omega (arith, s.within);
          one = s.one;
          after = λ j a b q. ⊎_elim (λ (g : j ≡ n). p (ap f (sym g) ∙ q)) (λ l. s.after j a l q) (eq-or-lt_of_le (le_of_suc-le-suc b));
        }

pub last_nothing : (f : ℕ → ℕ) (n : ℕ) → last f n ≡ None → (j : ℕ) → j < n → f j ≡ 1 → ⊥
unfolding last
last_nothing f zero e j h q = not-suc-le-zero h
last_nothing f (suc n) e j h q = test (last_nothing f n) (ℕ_discrete (f n) 1)
  where
    test : (last f n ≡ None → (j : ℕ) → j < n → f j ≡ 1 → ⊥) → Dec (f n ≡ 1) → ⊥
    test ih (yes p) = let h = rw (eq-eqb (f n) 1 p) at e in let z : ◌≡◌ {A = ℕ} 0 1 = cc in omega arith
    test ih (no p) =
        let r = rw (ne_eqb (f n) 1 p) at e in
        ⊎_elim (λ (g : j ≡ n). p (ap f (sym g) ∙ q)) (λ l. ih r j l q) (eq-or-lt_of_le (le_of_suc-le-suc h))
