-- Laws of the digits of a number, and of writing them from the last to the first. Assumes nothing.
use mathlib.Core.Path.{◌≡◌, refl, sym, ◌∙◌}
use mathlib.Core.Bool.{Bool, true, false, cond}
use mathlib.Core.List.{List, [], ◌∷◌, ◌++◌, append_assoc}
use Prim.Native.Nat.{ℕ, zero, suc, ◌+◌, ◌-◌, ◌/◌, ◌%◌, ◌≤◌, ◌<◌}
use native.Mathlib.Nat.{add-zero, add-suc}
use native.Mathlib.Omega.{arith}
use lib.ListN.{length, take, drop, set, length-append, length-set, take-append-drop}
use lib.Seq.{set_split, drop_at, length-take-le, take-set-le}
use lib.Dec.{ltb}
use borrow.Author.Tests.{lt-ltb, le-ltb, le-leb, lt-leb}
use Rattle.std.specs.Prelude.{Some, None}
use Rattle.decimal.specs.Decimal.{digits, num_digits, text_of, left, write_of}

pub digits-length : (k x : ℕ) → length (digits k x) ≡ k
unfolding digits
digits-length zero x = refl
digits-length (suc k) x = length-append (digits k (x / 10)) ((48 + x % 10) ∷ []) ∙ (let h = digits-length k (x / 10) in omega arith)

pub places_small : (f x : ℕ) → x < 10 → num_digits f x ≡ 1
unfolding num_digits
places_small zero x h = refl
places_small (suc f) x h = simp (lt-ltb _ _ h)

pub places_more : (f x : ℕ) → 10 ≤ x → num_digits (suc f) x ≡ suc (num_digits f (x / 10))
unfolding num_digits
places_more f x h = simp (le-ltb _ _ h)

places_some_by : (f x : ℕ) (t : Bool) → ltb x 10 ≡ t → 1 ≤ cond t 1 (suc (num_digits f (x / 10)))
places_some_by f x true e = omega arith
places_some_by f x false e = omega arith

pub places_some : (f x : ℕ) → 1 ≤ num_digits f x
unfolding num_digits
places_some zero x = omega arith
places_some (suc f) x = places_some_by f x (ltb x 10) refl

places_few_by : (f x : ℕ) (t : Bool) → num_digits f (x / 10) ≤ suc f → cond t 1 (suc (num_digits f (x / 10))) ≤ suc (suc f)
places_few_by f x true h = omega arith
places_few_by f x false h = omega arith

pub places_few : (f x : ℕ) → num_digits f x ≤ suc f
unfolding num_digits
places_few zero x = omega arith
places_few (suc f) x = places_few_by f x (ltb x 10) (places_few f (x / 10))

-- a u64 has 20 digits at most
pub text_short : (x : ℕ) → length (text_of x) ≤ 20
text_short x = rw digits-length (places_few 19 x)

-- a turn of the count: one digit is passed
pub count_more : (k x : ℕ) → k < 20 → 10 ≤ x → num_digits (20 - k) x ≡ suc (num_digits (20 - (k + 1)) (x / 10))
count_more k x h i = let e : 20 - k ≡ suc (20 - (k + 1)) = omega arith in rw e (places_more (20 - (k + 1)) x i)

pub count_end : (k x : ℕ) → 20 ≤ k → num_digits (20 - k) x ≡ 1
unfolding num_digits
count_end k x h = let e : 20 - k ≡ 0 = omega arith in rw e

-- the last k digits of x written over l from `at` on, the last one first
unfoldable pub put : ℕ → ℕ → List ℕ → ℕ → List ℕ
put zero x l at = l
put (suc k) x l at = put k (x / 10) (set l (at + k) (48 + x % 10)) at

pub put_none : (k x : ℕ) (l : List ℕ) (at : ℕ) → k ≤ 0 → put k x l at ≡ l
unfolding put
put_none zero x l at h = refl
put_none (suc k) x l at h = absurd (omega arith)

pub put_more : (k x : ℕ) (l : List ℕ) (at : ℕ) → 0 < k → put k x l at ≡ put (k - 1) (x / 10) (set l (at + (k - 1)) (48 + x % 10)) at
unfolding put
put_more zero x l at h = absurd (omega arith)
put_more (suc k) x l at h = let e : suc k - 1 ≡ k = omega arith in rw e

drop-set-same : (l : List ℕ) (i a : ℕ) → i < length l → drop i (set l i a) ≡ a ∷ drop (suc i) l
drop-set-same l i a h = rw (set_split l i a h) (drop_at (take i l) (a ∷ drop (suc i) l) i (length-take-le i l (omega arith)))

pub put-over : (k x : ℕ) (l : List ℕ) (at : ℕ) → at + k ≤ length l → put k x l at ≡ take at l ++ (digits k x ++ drop (at + k) l)
unfolding put digits
put-over zero x l at h = rw add-zero (sym (take-append-drop at l))
put-over (suc k) x l at h =
    let d : ℕ = 48 + x % 10 in
    let m : at + k < length l = omega arith in
    let n : at + k ≤ length (set l (at + k) d) = rw length-set (omega arith) in
    put-over k (x / 10) (set l (at + k) d) at n
    ∙ rw (take-set-le at l (at + k) d (omega arith), drop-set-same l (at + k) d m, add-suc, append_assoc)

module _ (x : ℕ) (l : List ℕ) (at n : ℕ) (e : n ≡ num_digits 19 x) where
  pub write_none : length l < at + n → left None l ≡ write_of x l at
  unfolding write_of
  write_none h = rw (← e, digits-length) (sym (simp (lt-leb _ _ h)))

  pub write_some : (t : List ℕ) → at + n ≤ length l → t ≡ take at l ++ (digits n x ++ drop (at + n) l) → left (Some (at + n)) t ≡ write_of x l at
  unfolding write_of
  write_some t h f = rw (← e, digits-length, f) (sym (simp (le-leb _ _ h)))
