-- Sums of parts of a list, and the list of its prefix sums: each of them, and that they are in order. Assumes nothing.
use mathlib.Core.Path.{◌≡◌, refl, sym, ap, ◌∙◌, subst}
use mathlib.Core.List.{List, [], ◌∷◌, ◌++◌}
use mathlib.Core.Bool.{true}
use Prim.Native.Nat.{ℕ, zero, suc, ◌+◌, ◌-◌, ◌≤◌, ◌<◌}
use native.Mathlib.Nat.{not-suc-le-zero, le_of_suc-le-suc}
use native.Mathlib.Omega.{arith}
use lib.ListN.{length, get_or, take, drop, take-append-drop}
use lib.Seq.{take-suc, take-add, take-length}
use Rattle.elias_fano_words.specs.Times.{rising, last_of}
use Rattle.elias_fano_words.proofs.Rising.{rising_cons, rising_none, last_of_snoc}
use Rattle.prefix_summed_elias_fano.specs.Sums.{sum, sums_from, sums}

pub sum-append : (A B : List ℕ) → sum (A ++ B) ≡ sum A + sum B
unfolding sum
sum-append [] B = omega arith
sum-append (a ∷ A) B = let e = sum-append A B in omega arith

pub sum_none : sum [] ≡ 0
unfolding sum
sum_none = refl

sum_one : (a : ℕ) → sum (a ∷ []) ≡ a
unfolding sum
sum_one a = omega arith

-- one item more
pub sum_next : (A : List ℕ) (k : ℕ) → k < length A → sum (take (suc k) A) ≡ sum (take k A) + get_or A k 0
sum_next A k h = ap sum (take-suc A k 0 h) ∙ sum-append (take k A) (get_or A k 0 ∷ []) ∙ ap (λ (y : ℕ). sum (take k A) + y) (sum_one (get_or A k 0))

-- a part more
pub sum_part : (A : List ℕ) (a b : ℕ) → a ≤ b → sum (take b A) ≡ sum (take a A) + sum (take (b - a) (drop a A))
sum_part A a b h =
    let e : b ≡ a + (b - a) = omega arith in
    ap (λ (y : ℕ). sum (take y A)) e ∙ ap sum (take-add a (b - a) A) ∙ sum-append (take a A) (take (b - a) (drop a A))

pub sum-upto : (A : List ℕ) (k : ℕ) → sum (take k A) ≤ sum A
sum-upto A k = let e = ap sum (take-append-drop k A) in let d = sum-append (take k A) (drop k A) in omega arith

pub sum-whole : (A : List ℕ) → sum (take (length A) A) ≡ sum A
sum-whole A = ap sum (take-length A)

-- ---- the prefix sums

pub length-sums : (x : ℕ) (A : List ℕ) → length (sums_from x A) ≡ length A
unfolding sums_from
length-sums x [] = refl
length-sums x (a ∷ A) = ap suc (length-sums (x + a) A)

sums_at : (x : ℕ) (A : List ℕ) (k : ℕ) → k < length A → get_or (sums_from x A) k 0 ≡ x + sum (take (suc k) A)
unfolding sums_from sum
sums_at x [] k h = absurd (not-suc-le-zero h)
sums_at x (a ∷ A) zero h = omega arith
sums_at x (a ∷ A) (suc k) h = let e = sums_at (x + a) A k (le_of_suc-le-suc h) in omega arith

pub get_d_sums : (A : List ℕ) (k : ℕ) → k < length A → get_or (sums A) k 0 ≡ sum (take (suc k) A)
get_d_sums A k h = let e = sums_at 0 A k h in omega arith

sums_rise_from : (s x : ℕ) (A : List ℕ) → x + sum A ≤ s → rising (suc s) x (sums_from x A) ≡ true
unfolding sums_from sum
sums_rise_from s x [] h = rising_none (suc s) x
sums_rise_from s x (a ∷ A) h = rising_cons (suc s) x (x + a) (sums_from (x + a) A) (omega arith) (omega arith) (sums_rise_from s (x + a) A (omega arith))

pub sums_rise : (A : List ℕ) → rising (suc (sum A)) 0 (sums A) ≡ true
sums_rise A = sums_rise_from (sum A) 0 A (omega arith)

-- the first k of them
pub sums_next : (A : List ℕ) (k : ℕ) → k < length A → take (suc k) (sums A) ≡ take k (sums A) ++ (sum (take (suc k) A) ∷ [])
sums_next A k h =
    take-suc (sums A) k 0 (subst (λ (y : ℕ). k < y) (sym (length-sums 0 A)) h) ∙ ap (λ (y : ℕ). take k (sums A) ++ (y ∷ [])) (get_d_sums A k h)

pub last_sum : (A : List ℕ) (k : ℕ) → k ≤ length A → last_of (take k (sums A)) ≡ sum (take k A)
last_sum A zero h = sym sum_none
last_sum A (suc k) h = ap last_of (sums_next A k h) ∙ last_of_snoc (take k (sums A)) (sum (take (suc k) A))
