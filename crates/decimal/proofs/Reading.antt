-- Laws of a text that is read from the left. Assumes nothing.
use mathlib.Core.Path.{◌≡◌, refl, sym, ◌∙◌, ap}
use mathlib.Core.Bool.{Bool, true, false, cond}
use mathlib.Core.List.{List, [], ◌∷◌}
use Prim.Native.Nat.{ℕ, zero, suc, ◌+◌, ◌-◌, ◌*◌, ◌^◌, ◌≤◌, ◌<◌}
use native.Mathlib.Numerals.{add-one}
use native.Mathlib.Nat.{le_trans}
use native.Mathlib.Omega.{arith}
use lib.ListN.{length, drop, get_or, drop_of_length-le}
use lib.Seq.{drop-cons}
use lib.Dec.{leb}
use borrow.Author.Tests.{lt-ltb, le-ltb, leb-true, eq-eqb, ne_eqb}
use Rattle.std.specs.Prelude.{Ok, Err, ◌↔◌, ◌&&◌, All}
use Rattle.std.specs.Bool.{one_answer}
use Rattle.decimal.specs.declared.ParseError.TheVariants.{OutOfForm, TooLarge}
use Rattle.decimal.specs.Decimal.{is_digit, all_digits, value_from, sized, parse_of}

pub both : (a b : Bool) → a && b ≡ true → (a ≡ true) × (b ≡ true)
both true b e = (refl, e)
both false b e = let z : ◌≡◌ {A = ℕ} 0 1 = cc in absurd (omega arith)

pub digit_bounds : (b : ℕ) → is_digit b ≡ true → (48 ≤ b) × (b ≤ 57)
digit_bounds b h = let e = both (leb 48 b) (leb b 57) h in (leb-true 48 b e.0, leb-true b 57 e.1)

pub digit_at : (t : List ℕ) (i d : ℕ) → all_digits t ≡ true → i < length t → is_digit (get_or t i d) ≡ true
unfolding all_digits
digit_at [] i d e h = absurd (omega arith)
digit_at (b ∷ t) zero d e h = (both (is_digit b) (all_digits t) e).0
digit_at (b ∷ t) (suc i) d e h = digit_at t i d (both (is_digit b) (all_digits t) e).1 (omega arith)

module _ (t : List ℕ) (i : ℕ) (h : i < length t) where
  pub value_more : (x : ℕ) → value_from x (drop i t) ≡ value_from (x * 10 + (get_or t i 0 - 48)) (drop (i + 1) t)
  unfolding value_from
  value_more x = rw (add-one, drop-cons t i 0)

-- what is read never falls
value_least : (x : ℕ) (t : List ℕ) → x ≤ value_from x t
unfolding value_from
value_least x [] = omega arith
value_least x (b ∷ t) = let h = value_least (x * 10 + (b - 48)) t in omega arith

pub too_large : (t : List ℕ) (i x : ℕ) → i < length t → value_from 0 t ≡ value_from x (drop i t) → 2 ^ 64 ≤ x * 10 + (get_or t i 0 - 48) → Err TooLarge ≡ sized (value_from 0 t)
too_large t i x h e l =
    let m : x * 10 + (get_or t i 0 - 48) ≤ value_from 0 t = rw (e ∙ value_more t i h x) (value_least _ _) in
    sym (ap (λ (b : Bool). cond b (Ok (value_from 0 t)) (Err TooLarge)) (le-ltb (value_from 0 t) (2 ^ 64) (le_trans l m)))

pub fitting : (t : List ℕ) (i x : ℕ) → length t ≤ i → value_from 0 t ≡ value_from x (drop i t) → x < 2 ^ 64 → Ok x ≡ sized (value_from 0 t)
unfolding value_from
fitting t i x h e l =
    let v : value_from 0 t ≡ x = e ∙ ap (value_from x) (drop_of_length-le t h) in
    rw v (sym (ap (λ (b : Bool). cond b (Ok x) (Err TooLarge)) (lt-ltb x (2 ^ 64) l)))

module _ (t : List ℕ) where
  pub parse_none : length t ≡ 0 → parse_of t ≡ Err OutOfForm
  unfolding parse_of
  parse_none h = simp (eq-eqb _ _ h)

  pub parse_other : (length t ≡ 0 → ⊥) → all_digits t ≡ false → parse_of t ≡ Err OutOfForm
  unfolding parse_of
  parse_other h e = simp (ne_eqb _ _ h, e)

  pub parse_digits : (length t ≡ 0 → ⊥) → all_digits t ≡ true → parse_of t ≡ sized (value_from 0 t)
  unfolding parse_of
  parse_digits h e = simp (ne_eqb _ _ h, e)

-- digits alone exactly if each byte is a digit
all_digits_of : (t : List ℕ) → ((k : ℕ) (d : ℕ) → k < length t → is_digit (get_or t k d) ≡ true) → all_digits t ≡ true
unfolding all_digits
all_digits_of [] h = refl
all_digits_of (b ∷ t) h = simp (h 0 0 (omega arith)) (all_digits_of t (λ k d i. h (suc k) d (omega arith)))

pub tests_all : (r : Bool) (t : List ℕ) → ((r ≡ true) ↔ All (λ b. is_digit b ≡ true) t) → r ≡ all_digits t
tests_all r t h = one_answer r (all_digits t) h ((λ e k d i. digit_at t k d e i), all_digits_of t)
