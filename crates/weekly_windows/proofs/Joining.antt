-- A window joins windows in order: they are in order then, and a second is in them if it was in them or is in the window. Assumes nothing.
use mathlib.Core.Path.{◌≡◌, refl, sym, ap, ap₂, ◌∙◌}
use mathlib.Core.List.{List, [], ◌∷◌}
use mathlib.Core.Bool.{Bool, true, false, ◌&&◌, ◌||◌, or_assoc, or_comm, or-false}
use Prim.Native.Nat.{ℕ, ◌≤◌, ◌<◌, min, max}
use native.Mathlib.Nat.{le_trans, lt_of_not-le}
use native.Mathlib.Decide.{dec_le, dec_lt}
use native.Mathlib.Omega.{arith}
use borrow.Author.Tests.{lt-ltb, le-ltb, le-leb, lt-leb, ltb-false, leb-false}
use lib.Dec.{leb, ltb}
use Rattle.elias_fano_words.specs.Times.{rising}
use Rattle.elias_fano_words.proofs.Rising.{rising_first, rising_cons, rising_none}
use Rattle.weekly_windows.specs.Windows.{between, in_some}
use Rattle.weekly_windows.specs.Ordering.{inserted, joined}

-- ---- two windows

-- p and q, p' and q' are tests of two windows, of which neither ends before the other begins
spread : (p q p' q' : Bool) → (p ≡ true → q ≡ false → p' ≡ false → ⊥) → (p ≡ false → p' ≡ true → q' ≡ false → ⊥) → ((p || p') && (q || q')) ≡ ((p && q) || (p' && q'))
spread true true p' q' f g = refl
spread true false true true f g = refl
spread true false true false f g = refl
spread true false false q' f g = absurd (f refl refl refl)
spread false true true true f g = refl
spread false true true false f g = absurd (g refl refl refl)
spread false true false q' f g = refl
spread false false p' q' f g = refl

module _ (x y c d r : ℕ) where
  from_lesser : leb (min x c) r ≡ (leb x r || leb c r)
  from_lesser = go (dec_le x r) (dec_le c r)
    where
      go : Dec (x ≤ r) → Dec (c ≤ r) → leb (min x c) r ≡ (leb x r || leb c r)
      go (yes h) k = simp (le-leb x r h, le-leb (min x c) r (omega arith))
      go (no h) (yes k) = simp (lt-leb x r (lt_of_not-le h), le-leb c r k, le-leb (min x c) r (omega arith))
      go (no h) (no k) = simp (lt-leb x r (lt_of_not-le h), lt-leb c r (lt_of_not-le k), lt-leb (min x c) r (omega (arith, lt_of_not-le h, lt_of_not-le k)))

  to_greater : ltb r (max y d) ≡ (ltb r y || ltb r d)
  to_greater = go (dec_lt r y) (dec_lt r d)
    where
      go : Dec (r < y) → Dec (r < d) → ltb r (max y d) ≡ (ltb r y || ltb r d)
      go (yes h) k = simp (lt-ltb r y h, lt-ltb r (max y d) (omega arith))
      go (no h) (yes k) = simp (le-ltb r y (omega (arith, lt_of_not-le h)), lt-ltb r d k, lt-ltb r (max y d) (omega arith))
      go (no h) (no k) = simp (le-ltb r y (omega (arith, lt_of_not-le h)), le-ltb r d (omega (arith, lt_of_not-le k)), le-ltb r (max y d) (omega (arith, lt_of_not-le h, lt_of_not-le k)))

  -- neither ends before the other begins: they are one
  between-joined : x ≤ d → c ≤ y → between (min x c) (max y d) r ≡ (between x y r || between c d r)
  between-joined h k = ap₂ ◌&&◌ from_lesser to_greater ∙ spread (leb x r) (ltb r y) (leb c r) (ltb r d)
      (λ _ f g. omega (arith, ltb-false r y f, leb-false c r g))
      (λ e _ g. omega (arith, leb-false x r e, ltb-false r d g))

-- ---- a window more

swap : (p q t : Bool) → (p || (q || t)) ≡ (q || (p || t))
swap p q t = sym (or_assoc p q t) ∙ ap (λ (b : Bool). b || t) (or_comm p q) ∙ or_assoc q p t

-- a second is in the window or in the others
inside_inserted : (x y : ℕ) (ws : List ℕ) (r : ℕ) → in_some (inserted x y ws) r ≡ (between x y r || in_some ws r)
unfolding in_some inserted
inside_inserted x y [] r = refl
inside_inserted x y (c ∷ []) r = refl
inside_inserted x y (c ∷ d ∷ ws) r = go (inside_inserted x y ws r) (inside_inserted c d ws r) (inside_inserted (min x c) (max y d) ws r) (dec_lt d x) (dec_lt y c)
  where
    go :
        in_some (inserted x y ws) r ≡ (between x y r || in_some ws r) → in_some (inserted c d ws) r ≡ (between c d r || in_some ws r) → in_some (inserted (min x c) (max y d) ws) r ≡ (between (min x c) (max y d) r || in_some ws r)
        → Dec (d < x) → Dec (y < c) → in_some (inserted x y (c ∷ d ∷ ws)) r ≡ (between x y r || (between c d r || in_some ws r))
    go f g k (yes h) t = simp (lt-ltb d x h) (ap (λ (b : Bool). between c d r || b) f ∙ swap (between c d r) (between x y r) (in_some ws r))
    go f g k (no h) (yes t) = simp (le-ltb d x (omega (arith, lt_of_not-le h)), lt-ltb y c t) (ap (λ (b : Bool). between x y r || b) g)
    go f g k (no h) (no t) =
        simp (le-ltb d x (omega (arith, lt_of_not-le h)), le-ltb y c (omega (arith, lt_of_not-le t)))
        (k ∙ ap (λ (b : Bool). b || in_some ws r) (between-joined x y c d r (omega (arith, lt_of_not-le h)) (omega (arith, lt_of_not-le t))) ∙ or_assoc (between x y r) (between c d r) (in_some ws r))

-- a list in order may begin at a lesser number
rising_from : (u x y : ℕ) (ws : List ℕ) → y ≤ x → rising u x ws ≡ true → rising u y ws ≡ true
rising_from u x y [] h e = rising_none u y
rising_from u x y (c ∷ ws) h e = let f = rising_first u x c ws e in rising_cons u y c ws (le_trans h f.0) f.1 f.2

-- the windows are in order
pub rising-inserted : (u lo x y : ℕ) (ws : List ℕ) → rising u lo ws ≡ true → lo ≤ x → x ≤ y → y < u → rising u lo (inserted x y ws) ≡ true
unfolding inserted
rising-inserted u lo x y [] e h k l = rising_cons u lo x (y ∷ []) h (omega arith) (rising_cons u x y [] k l (rising_none u y))
rising-inserted u lo x y (c ∷ []) e h k l = rising_cons u lo x (y ∷ []) h (omega arith) (rising_cons u x y [] k l (rising_none u y))
rising-inserted u lo x y (c ∷ d ∷ ws) e h k l =
    let f = rising_first u lo c (d ∷ ws) e in
    let g = rising_first u c d ws f.2 in
    go f g (λ (t : d ≤ x). rising-inserted u d x y ws g.2 t k l)
    (λ (t : y ≤ d) (i : y ≤ c). rising-inserted u y c d ws (rising_from u d y ws t g.2) i g.0 g.1)
    (λ (t : lo ≤ d) (i : lo ≤ min x c) (j : min x c ≤ max y d) (m : max y d < u). rising-inserted u lo (min x c) (max y d) ws (rising_from u d lo ws t g.2) i j m)
    (dec_lt d x) (dec_lt y c)
  where
    go :
        (lo ≤ c) × (c < u) × (rising u c (d ∷ ws) ≡ true) → (c ≤ d) × (d < u) × (rising u d ws ≡ true)
        → (d ≤ x → rising u d (inserted x y ws) ≡ true) → (y ≤ d → y ≤ c → rising u y (inserted c d ws) ≡ true) → (lo ≤ d → lo ≤ min x c → min x c ≤ max y d → max y d < u → rising u lo (inserted (min x c) (max y d) ws) ≡ true)
        → Dec (d < x) → Dec (y < c) → rising u lo (inserted x y (c ∷ d ∷ ws)) ≡ true
    go f g a b j (yes t) v = simp (lt-ltb d x t) (rising_cons u lo c _ f.0 f.1 (rising_cons u c d _ g.0 g.1 (a (omega arith))))
    go f g a b j (no t) (yes v) = simp (le-ltb d x (omega (arith, lt_of_not-le t)), lt-ltb y c v) (rising_cons u lo x _ h (omega arith) (rising_cons u x y _ k l (b (omega (arith, g.0)) (omega arith))))
    go f g a b j (no t) (no v) = simp (le-ltb d x (omega (arith, lt_of_not-le t)), le-ltb y c (omega (arith, lt_of_not-le v))) (j (omega (arith, f.0, g.0)) (omega (arith, f.0)) (omega arith) (omega (arith, g.1)))

-- ---- all windows

pub inside_joined : (o ws : List ℕ) (r : ℕ) → in_some (joined o ws) r ≡ (in_some o r || in_some ws r)
unfolding in_some joined
inside_joined o [] r = sym (or-false (in_some o r))
inside_joined o (a ∷ []) r = sym (or-false (in_some o r))
inside_joined o (a ∷ b ∷ ws) r =
    inside_joined (inserted a b o) ws r
    ∙ ap (λ (t : Bool). t || in_some ws r) (inside_inserted a b o r ∙ or_comm (between a b r) (in_some o r))
    ∙ or_assoc (in_some o r) (between a b r) (in_some ws r)
