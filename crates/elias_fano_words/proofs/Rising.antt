-- Times in order: how a list of them grows by one, what each of them has, and a table of them. Assumes nothing.
use mathlib.Core.Path.{◌≡◌, refl, sym, ap, ◌∙◌, subst}
use mathlib.Core.List.{List, [], ◌∷◌, ◌++◌, append_assoc, append-nil}
use mathlib.Core.Bool.{Bool, true, false, ◌&&◌}
use Prim.Native.Nat.{ℕ, zero, suc, ◌+◌, ◌-◌, ◌≤◌, ◌<◌, zero-le, suc-le-suc}
use native.Mathlib.Nat.{le_refl, le_trans, lt_of_le_of_lt, le_of_suc-le-suc, not-suc-le-zero, add-zero, zero-lt-suc}
use native.Mathlib.Numerals.{add-one}
use native.Mathlib.Omega.{arith}
use borrow.Author.Tests.{leb-true, ltb-true, le-leb, lt-ltb}
use lib.Dec.{leb, ltb}
use lib.ListN.{length, get_or}
use Rattle.broadword.specs.Fields.{flag}
use Rattle.darray_positions.specs.Index.{table}
use Rattle.darray_positions.proofs.Index.{length-table, get_d_table}
use Rattle.elias_fano_words.specs.Times.{rising, unrepeated, unrepeated_if, last_from, last_of}
use Rattle.broadword.proofs.Truth.{and_true, true_and}

-- ---- the first time, and the rest

module _ (u x t : ℕ) (T : List ℕ) where
  pub rising_first : rising u x (t ∷ T) ≡ true → (x ≤ t) × (t < u) × (rising u t T ≡ true)
  unfolding rising
  rising_first e =
      let a = and_true (leb x t) (ltb t u && rising u t T) e in
      let b = and_true (ltb t u) (rising u t T) a.1 in
      (leb-true x t a.0, ltb-true t u b.0, b.1)

  pub rising_cons : x ≤ t → t < u → rising u t T ≡ true → rising u x (t ∷ T) ≡ true
  unfolding rising
  rising_cons h l e = true_and (leb x t) (ltb t u && rising u t T) (le-leb x t h) (true_and (ltb t u) (rising u t T) (lt-ltb t u l) e)

pub rising_none : (u x : ℕ) → rising u x [] ≡ true
unfolding rising
rising_none u x = refl

-- ---- one more time

pub last_snoc : (x : ℕ) (T : List ℕ) (t : ℕ) → last_from x (T ++ (t ∷ [])) ≡ t
last_snoc x [] t = refl
last_snoc x (s ∷ T) t = last_snoc s T t

pub last_of_snoc : (T : List ℕ) (t : ℕ) → last_of (T ++ (t ∷ [])) ≡ t
last_of_snoc T t = last_snoc 0 T t

pub rising_more : (u x : ℕ) (T : List ℕ) (t : ℕ) → rising u x T ≡ true → last_from x T ≤ t → t < u → rising u x (T ++ (t ∷ [])) ≡ true
rising_more u x [] t e h l = rising_cons u x t [] h l (rising_none u t)
rising_more u x (s ∷ T) t e h l =
    let r = rising_first u x s T e in
    rising_cons u x s (T ++ (t ∷ [])) r.0 r.1 (rising_more u s T t r.2 h l)

pub rising_snoc : (u : ℕ) (T : List ℕ) (t : ℕ) → rising u 0 T ≡ true → last_of T ≤ t → t < u → rising u 0 (T ++ (t ∷ [])) ≡ true
rising_snoc u T t = rising_more u 0 T t

module _ (u : ℕ) (P : List ℕ → Type 0) (base : P []) (step : (T : List ℕ) (t : ℕ) → P T → rising u 0 T ≡ true → last_of T ≤ t → t < u → P (T ++ (t ∷ []))) where
  -- by the times that are taken already
  grow : (A B : List ℕ) → P A → rising u 0 A ≡ true → rising u (last_of A) B ≡ true → P (A ++ B)
  grow A [] p r e = subst P (sym (append-nil A)) p
  grow A (t ∷ B) p r e =
      let h = rising_first u (last_of A) t B e in
      subst P (append_assoc A (t ∷ []) B)
      (grow (A ++ (t ∷ [])) B (step A t p r h.0 h.1) (rising_snoc u A t r h.0 h.1) (subst (λ (x : ℕ). rising u x B ≡ true) (sym (last_of_snoc A t)) h.2))

  -- what holds of no times, and of one more where it holds, holds of all times in order
  pub rising_induction : (T : List ℕ) → rising u 0 T ≡ true → P T
  rising_induction T e = grow [] T base (rising_none u 0) e

-- ---- each time

module _ (u : ℕ) where
  each_lt : (x : ℕ) (T : List ℕ) (k : ℕ) → rising u x T ≡ true → k < length T → get_or T k 0 < u
  each_lt x [] k e h = absurd (not-suc-le-zero h)
  each_lt x (t ∷ T) zero e h = (rising_first u x t T e).1
  each_lt x (t ∷ T) (suc k) e h = each_lt t T k (rising_first u x t T e).2 (le_of_suc-le-suc h)

  each_le : (x : ℕ) (T : List ℕ) (k : ℕ) → rising u x T ≡ true → suc k < length T → get_or T k 0 ≤ get_or T (suc k) 0
  each_le x [] k e h = absurd (not-suc-le-zero h)
  each_le x (t ∷ []) k e h = absurd (not-suc-le-zero (le_of_suc-le-suc h))
  each_le x (t ∷ s ∷ T) zero e h = (rising_first u t s T (rising_first u x t (s ∷ T) e).2).0
  each_le x (t ∷ s ∷ T) (suc k) e h = each_le t (s ∷ T) k (rising_first u x t (s ∷ T) e).2 (le_of_suc-le-suc h)

  pub rising_lt : (T : List ℕ) (k : ℕ) → rising u 0 T ≡ true → k < length T → get_or T k 0 < u
  rising_lt = each_lt 0

  pub rising_le : (T : List ℕ) (k : ℕ) → rising u 0 T ≡ true → k + 1 < length T → get_or T k 0 ≤ get_or T (k + 1) 0
  rising_le T k e h = rw (add-one k) (each_le 0 T k e (omega arith))

-- ---- each step

below_next : (T : List ℕ) (k : ℕ) → unrepeated T ≡ true → suc k < length T → get_or T k 0 < get_or T (suc k) 0
unfolding unrepeated
below_next [] k e h = absurd (not-suc-le-zero h)
below_next (t ∷ []) k e h = absurd (not-suc-le-zero (le_of_suc-le-suc h))
below_next (t ∷ s ∷ T) zero e h = ltb-true t s (and_true (ltb t s) (unrepeated (s ∷ T)) e).0
below_next (t ∷ s ∷ T) (suc k) e h = below_next (s ∷ T) k (and_true (ltb t s) (unrepeated (s ∷ T)) e).1 (le_of_suc-le-suc h)

pub no_repeat : (T : List ℕ) → ((k : ℕ) → suc k < length T → get_or T k 0 < get_or T (suc k) 0) → unrepeated T ≡ true
unfolding unrepeated
no_repeat [] h = refl
no_repeat (t ∷ []) h = refl
no_repeat (t ∷ s ∷ T) h =
    true_and (ltb t s) (unrepeated (s ∷ T)) (lt-ltb t s (h 0 (suc-le-suc (zero-lt-suc (length T))))) (no_repeat (s ∷ T) (λ k g. h (suc k) (suc-le-suc g)))

-- by how much the next time is greater at least
pub steps_of : (s : Bool) (u : ℕ) (T : List ℕ) → rising u 0 T ≡ true → unrepeated_if s T ≡ true → (k : ℕ) → suc k < length T → get_or T k 0 + flag s ≤ get_or T (suc k) 0
steps_of true u T r e k h = omega (arith, below_next T k e h)
steps_of false u T r e k h = omega (arith, each_le u 0 T k r h)

last_get_d : (x : ℕ) (T : List ℕ) (n : ℕ) → length T ≡ suc n → last_from x T ≡ get_or T n 0
last_get_d x [] n e = absurd (omega arith)
last_get_d x (t ∷ []) zero e = refl
last_get_d x (t ∷ []) (suc n) e = absurd (omega arith)
last_get_d x (t ∷ s ∷ T) zero e = absurd (omega arith)
last_get_d x (t ∷ s ∷ T) (suc n) e = last_get_d t (s ∷ T) n (omega arith)

pub last_of_get_d : (T : List ℕ) → 0 < length T → last_of T ≡ get_or T (length T - 1) 0
last_of_get_d T h = last_get_d 0 T (length T - 1) (omega arith)

-- ---- a table of times

pub last_of-table : (f : ℕ → ℕ) (m : ℕ) → 0 < m → last_of (table f m) ≡ f (m - 1)
last_of-table f m h =
    let e = length-table f m in
    last_of_get_d (table f m) (omega arith) ∙ ap (λ (k : ℕ). get_or (table f m) (k - 1) 0) e ∙ get_d_table f m (m - 1) (omega arith)

-- they rise where neighbours do
steps : (f : ℕ → ℕ) (m : ℕ) → ((k : ℕ) → k + 1 < m → f k ≤ f (k + 1)) → (k d : ℕ) → k + d < m → f k ≤ f (k + d)
steps f m h k zero l = rw (add-zero k) (le_refl (f k))
steps f m h k (suc d) l =
    let e : k + suc d ≡ k + d + 1 = omega arith in
    rw e (le_trans (steps f m h k d (omega arith)) (h (k + d) (omega arith)))

from_each : (u x : ℕ) (f : ℕ → ℕ) (m : ℕ) → (0 < m → x ≤ f 0) → ((k : ℕ) → suc k < m → f k ≤ f (suc k)) → ((k : ℕ) → k < m → f k < u) → rising u x (table f m) ≡ true
unfolding table
from_each u x f zero a h l = rising_none u x
from_each u x f (suc m) a h l =
    rising_cons u x (f 0) (table (λ i. f (suc i)) m) (a (zero-lt-suc m)) (l 0 (zero-lt-suc m))
    (from_each u (f 0) (λ i. f (suc i)) m (λ g. h 0 (suc-le-suc g)) (λ k g. h (suc k) (suc-le-suc g)) (λ k g. l (suc k) (suc-le-suc g)))

pub rising_pairs : (u : ℕ) (f : ℕ → ℕ) (m : ℕ) → ((k : ℕ) → k + 1 < m → f k ≤ f (k + 1)) → (0 < m → f (m - 1) < u) → rising u 0 (table f m) ≡ true
rising_pairs u f m h l =
    from_each u 0 f m (λ _. zero-le) (λ k g. rw (add-one k) at (h k (omega arith))) (λ k g.
    let d : k + (m - 1 - k) ≡ m - 1 = omega arith in
    lt_of_le_of_lt (steps f m h k (m - 1 - k) (omega arith)) (subst (λ (i : ℕ). f i < u) (sym d) (l (omega arith))))

pub steps_table : (s : Bool) (f : ℕ → ℕ) (m : ℕ) → ((k : ℕ) → suc k < m → f k + flag s ≤ f (suc k)) → unrepeated_if s (table f m) ≡ true
steps_table true f m h =
    no_repeat (table f m) (λ k g.
    let l = length-table f m in
    let a = get_d_table f m k (omega arith) in
    let b = get_d_table f m (suc k) (omega arith) in
    omega (arith, h k (omega arith)))
steps_table false f m h = refl
