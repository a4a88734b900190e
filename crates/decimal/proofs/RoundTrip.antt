-- Parsing what is written gives the number back, and what is written has no leading zero. Assumes nothing.
use mathlib.Core.Path.{◌≡◌, refl, ◌∙◌, ap}
use mathlib.Core.Bool.{Bool, true, false, cond}
use mathlib.Core.List.{List, [], ◌∷◌, ◌++◌}
use mathlib.Core.Logic.{◌⊎◌, inl, inr, ⊎_elim}
use Prim.Native.Nat.{ℕ, zero, suc, ◌+◌, ◌-◌, ◌*◌, ◌/◌, ◌%◌, ◌^◌, ◌≤◌, ◌<◌}
use native.Mathlib.Nat.{mod-eq_of_lt, pow-suc, one-le-pow}
use native.Mathlib.Omega.{arith}
use lib.ListN.{length, take, drop, get_or, get_or-append}
use lib.Seq.{take_at, drop_at, length-take-le}
use lib.Arith.{mod-mul}
use lib.Dec.{ltb}
use borrow.Author.Tests.{ltb-true, ltb-false, lt-ltb, le-leb}
use Rattle.std.specs.Prelude.{Ok, Err}
use Rattle.decimal.specs.declared.ParseError.TheVariants.{TooLarge}
use Rattle.decimal.specs.Decimal.{is_digit, all_digits, value_from, parse_of, digits, num_digits, text_of, write_of}
use Rattle.decimal.proofs.Reading.{both, parse_digits}
use Rattle.decimal.proofs.Writing.{digits-length, places_small, places_more, places_some}

lt_or_le_by : (a b : ℕ) (t : Bool) → ltb a b ≡ t → (a < b) ⊎ (b ≤ a)
lt_or_le_by a b true e = inl (ltb-true a b e)
lt_or_le_by a b false e = inr (ltb-false a b e)

lt_or_le : (a b : ℕ) → (a < b) ⊎ (b ≤ a)
lt_or_le a b = lt_or_le_by a b (ltb a b) refl

digit_is : (d : ℕ) → d < 10 → is_digit (48 + d) ≡ true
digit_is d h = let a : 48 ≤ 48 + d = omega arith in let b : 48 + d ≤ 57 = omega arith in simp (le-leb _ _ a, le-leb _ _ b)

all_snoc : (t : List ℕ) (b : ℕ) → all_digits t ≡ true → is_digit b ≡ true → all_digits (t ++ b ∷ []) ≡ true
unfolding all_digits
all_snoc [] b e h = simp h
all_snoc (a ∷ t) b e h = let p = both (is_digit a) (all_digits t) e in simp (p.0, all_snoc t b p.1 h)

value_snoc : (x : ℕ) (t : List ℕ) (b : ℕ) → value_from x (t ++ b ∷ []) ≡ value_from x t * 10 + (b - 48)
unfolding value_from
value_snoc x [] b = refl
value_snoc x (a ∷ t) b = value_snoc (x * 10 + (a - 48)) t b

digits_all : (k x : ℕ) → all_digits (digits k x) ≡ true
unfolding all_digits digits
digits_all zero x = refl
digits_all (suc k) x = all_snoc (digits k (x / 10)) (48 + x % 10) (digits_all k (x / 10)) (digit_is (x % 10) (omega arith))

-- the last k digits spell the number's remainder
pub digits_value : (k x : ℕ) → value_from 0 (digits k x) ≡ x % 10 ^ k
unfolding value_from digits
digits_value zero x = omega arith
digits_value (suc k) x =
    let e = value_snoc 0 (digits k (x / 10)) (48 + x % 10) in
    let h = digits_value k (x / 10) in
    let m : x % (10 ^ k * 10) ≡ (x / 10 % 10 ^ k) * 10 + x % 10 = mod-mul x (one-le-pow k 10 (omega arith)) (omega arith) in
    rw (pow-suc 10 k) (omega arith)

-- a number below 10 ^ (f + 1) is below 10 to the number of its digits
pub places_hold : (f x : ℕ) → x < 10 ^ suc f → x < 10 ^ num_digits f x
unfolding num_digits
places_hold zero x h = h
places_hold (suc f) x h =
    let a = pow-suc 10 (suc f) in
    let b = places_hold f (x / 10) (omega arith) in
    ⊎_elim
    (λ (s : x < 10). rw (places_small (suc f) x s) s)
    (λ (l : 10 ≤ x). rw (places_more f x l, pow-suc 10 (num_digits f (x / 10))) (omega arith))
    (lt_or_le x 10)

-- a number but 0 starts with a digit but '0'
pub no_leading_zero : (f x : ℕ) → 0 < x → x < 10 ^ suc f → 48 < get_or (digits (num_digits f x) x) 0 0
unfolding digits num_digits
no_leading_zero zero x h i = omega arith
no_leading_zero (suc f) x h i =
    let a = pow-suc 10 (suc f) in
    let n : 0 < length (digits (num_digits f (x / 10)) (x / 10)) = rw digits-length (places_some f (x / 10)) in
    ⊎_elim
    (λ (s : x < 10). rw (places_small (suc f) x s) (omega arith))
    (λ (l : 10 ≤ x).
    rw (places_more f x l, get_or-append (digits (num_digits f (x / 10)) (x / 10)) ((48 + x % 10) ∷ []) 0 0 n)
    (no_leading_zero f (x / 10) (omega arith) (omega arith)))
    (lt_or_le x 10)

-- parsing the text of a number gives the number back
pub parse_text : (x : ℕ) → x < 2 ^ 64 → parse_of (text_of x) ≡ Ok x
parse_text x h =
    let p = places_some 19 x in
    let l = digits-length (num_digits 19 x) x in
    let w : x < 10 ^ 20 = omega arith in
    let v : value_from 0 (text_of x) ≡ x = digits_value (num_digits 19 x) x ∙ mod-eq_of_lt (places_hold 19 x w) in
    parse_digits (text_of x) (λ (e : length (text_of x) ≡ 0). omega arith) (digits_all (num_digits 19 x) x)
    ∙ rw v (ap (λ (b : Bool). cond b (Ok x) (Err TooLarge)) (lt-ltb x (2 ^ 64) h))

-- what a write leaves between its start and its end parses to the number
pub parse_written : (x : ℕ) (l : List ℕ) (at : ℕ) → x < 2 ^ 64 → at + length (text_of x) ≤ length l → parse_of (take (length (text_of x)) (drop at (write_of x l at).bytes)) ≡ Ok x
unfolding write_of
parse_written x l at h r =
    let d = length-take-le at l (omega arith) in
    simp (le-leb _ _ r, drop_at (take at l) (text_of x ++ drop (at + length (text_of x)) l) at d, take_at (text_of x) (drop (at + length (text_of x)) l) (length (text_of x)) refl) (parse_text x h)
