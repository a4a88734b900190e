-- Two words of a list at a time: read, written, and in form as a window. Assumes nothing.
use mathlib.Core.Path.{◌≡◌, refl, sym, ap, ap₂, ◌∙◌}
use mathlib.Core.List.{List, [], ◌∷◌, ◌++◌, append_assoc}
use mathlib.Core.Bool.{Bool, true, false, ◌&&◌, and_assoc}
use Prim.Native.Nat.{ℕ, zero, suc, ◌+◌, ◌%◌, ◌≤◌, ◌<◌}
use native.Mathlib.Nat.{lt_of_not-le}
use native.Mathlib.Decide.{dec_lt}
use native.Mathlib.Numerals.{add-one}
use native.Mathlib.Omega.{arith}
use borrow.Author.Tests.{ltb-true, leb-true, le-leb, lt-leb}
use lib.Dec.{leb, ltb, eqb}
use lib.ListN.{length, get_or, take, drop, set, drop_of_length-le}
use lib.Seq.{drop-cons, sets-eq, take-append-add, length-take-le, drop-set-lt}
use Rattle.broadword.proofs.Truth.{and_true, true_false}
use Rattle.weekly_windows.specs.Windows.{week, in_form, are_windows}

-- ---- lists

pub drop-two : (l : List ℕ) (i : ℕ) → i + 1 < length l → drop i l ≡ get_or l i 0 ∷ get_or l (i + 1) 0 ∷ drop (i + 2) l
drop-two l i h =
    let e : suc (suc i) ≡ i + 2 = omega arith in
    drop-cons l i 0 (omega arith) ∙ ap (λ (r : List ℕ). get_or l i 0 ∷ r) (drop-cons l (suc i) 0 (omega arith))
    ∙ ap₂ (λ (p q : ℕ). get_or l i 0 ∷ get_or l p 0 ∷ drop q l) (sym (add-one i)) e

module _ (l : List ℕ) (n a b : ℕ) (h : n + 1 < length l) where
  put_two : set (set l n a) (n + 1) b ≡ take n l ++ a ∷ b ∷ drop (n + 2) l
  put_two = ap (λ (k : ℕ). set (set l n a) k b) (add-one n) ∙ sets-eq (a ∷ b ∷ []) l n (omega arith) ∙ append_assoc (take n l) (a ∷ b ∷ []) (drop (n + 2) l)

  -- of two words that are written, w are kept
  pub take_put : (w : ℕ) → w ≤ 2 → take (n + w) (set (set l n a) (n + 1) b) ≡ take n l ++ take w (a ∷ b ∷ [])
  take_put w k =
      let e = length-take-le n l (omega arith) in
      ap (take (n + w)) put_two
      ∙ ap (λ (m : ℕ). take (m + w) (take n l ++ a ∷ b ∷ drop (n + 2) l)) (sym e)
      ∙ take-append-add (take n l) (a ∷ b ∷ drop (n + 2) l) w
      ∙ ap (λ (r : List ℕ). take n l ++ r) (first w k)
    where
      first : (w : ℕ) → w ≤ 2 → take w (a ∷ b ∷ drop (n + 2) l) ≡ take w (a ∷ b ∷ [])
      first zero k = refl
      first (suc zero) k = refl
      first (suc (suc zero)) k = refl
      first (suc (suc (suc w))) k = absurd (omega arith)

  -- what stands after them stays
  pub drop-put : (i : ℕ) → n ≤ i → drop (i + 2) (set (set l n a) (n + 1) b) ≡ drop (i + 2) l
  drop-put i k = drop-set-lt (i + 2) (set l n a) (n + 1) b (omega arith) ∙ drop-set-lt (i + 2) l n a (omega arith)

-- ---- windows in form

module _ (ws : List ℕ) (i : ℕ) where
  form_two : i + 1 < length ws → in_form (drop i ws) ≡ ((ltb (get_or ws i 0) (get_or ws (i + 1) 0) && leb (get_or ws (i + 1) 0) week) && in_form (drop (i + 2) ws))
  unfolding in_form
  form_two h = ap in_form (drop-two ws i h) ∙ sym (and_assoc (ltb (get_or ws i 0) (get_or ws (i + 1) 0)) (leb (get_or ws (i + 1) 0) week) (in_form (drop (i + 2) ws)))

  pub form_wrong : i + 1 < length ws → (t : Bool) → t ≡ (ltb (get_or ws i 0) (get_or ws (i + 1) 0) && leb (get_or ws (i + 1) 0) week) → t ≡ false → in_form (drop i ws) ≡ false
  form_wrong h t e f = form_two h ∙ ap (λ (b : Bool). b && in_form (drop (i + 2) ws)) (sym e ∙ f)

  pub form_right : i + 1 < length ws → (t : Bool) → t ≡ (ltb (get_or ws i 0) (get_or ws (i + 1) 0) && leb (get_or ws (i + 1) 0) week) → t ≡ true → in_form (drop i ws) ≡ in_form (drop (i + 2) ws)
  form_right h t e f = form_two h ∙ ap (λ (b : Bool). b && in_form (drop (i + 2) ws)) (sym e ∙ f)

  -- at most one word is left: none, if there are pairs
  pub form_left : length ws < i + 2 → i ≤ length ws → i % 2 ≡ 0 → eqb (length ws % 2) 0 ≡ in_form (drop i ws)
  unfolding in_form
  form_left h k e = go (dec_lt i (length ws))
    where
      go : Dec (i < length ws) → eqb (length ws % 2) 0 ≡ in_form (drop i ws)
      go (yes l) =
          let m : length ws % 2 ≡ 1 = omega arith in
          ap (λ (n : ℕ). eqb n 0) m ∙ sym (ap in_form (drop-cons ws i 0 l ∙ ap (λ (r : List ℕ). get_or ws i 0 ∷ r) (drop_of_length-le ws {i = suc i} (omega arith))))
      go (no l) =
          let m : length ws % 2 ≡ 0 = omega (arith, lt_of_not-le l) in
          ap (λ (n : ℕ). eqb n 0) m ∙ sym (ap in_form (drop_of_length-le ws (omega (arith, lt_of_not-le l))))

-- a window in form, and the others
pub form_first : (a b : ℕ) (ws : List ℕ) → in_form (a ∷ b ∷ ws) ≡ true → (a < b) × (b ≤ week) × (in_form ws ≡ true)
unfolding in_form
form_first a b ws e =
    let f = and_true (ltb a b) (leb b week && in_form ws) e in
    let g = and_true (leb b week) (in_form ws) f.1 in
    (ltb-true a b f.0, leb-true b week g.0, g.1)

pub form_even : (ws : List ℕ) → in_form ws ≡ true → length ws % 2 ≡ 0
unfolding in_form
form_even [] e = refl
form_even (a ∷ []) e = absurd (true_false (sym e))
form_even (a ∷ b ∷ ws) e = let h = form_even ws (form_first a b ws e).2 in omega arith

pub windows_too_many : (ws : List ℕ) → 64 < length ws → false ≡ are_windows ws
unfolding are_windows
windows_too_many ws h = sym (ap (λ (b : Bool). b && in_form ws) (lt-leb (length ws) 64 h))

pub windows_by_form : (ws : List ℕ) → length ws ≤ 64 → in_form ws ≡ are_windows ws
unfolding are_windows
windows_by_form ws h = sym (ap (λ (b : Bool). b && in_form ws) (le-leb (length ws) 64 h))

pub few_windows : (ws : List ℕ) → are_windows ws ≡ true → (length ws ≤ 64) × (in_form ws ≡ true)
unfolding are_windows
few_windows ws e = let f = and_true (leb (length ws) 64) (in_form ws) e in (leb-true (length ws) 64 f.0, f.1)
