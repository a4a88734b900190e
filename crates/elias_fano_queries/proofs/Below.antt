-- How many times of a list in order are below a value, and the neighbours of a value in it. Assumes nothing.
use mathlib.Core.Path.{◌≡◌, refl, sym, ap, ◌∙◌, subst}
use mathlib.Core.List.{List, [], ◌∷◌}
use mathlib.Core.Bool.{Bool, true, cond}
use Prim.Native.Nat.{ℕ, zero, suc, ◌+◌, ◌-◌, ◌*◌, ◌^◌, ◌≤◌, ◌<◌}
use native.Mathlib.Nat.{le_trans, not-suc-le-zero, le_of_suc-le-suc, lt_of_not-le}
use native.Mathlib.Decide.{dec_le, dec_lt}
use native.Mathlib.Omega.{arith}
use borrow.Author.Tests.{lt-ltb, le-ltb, le-leb, lt-leb}
use lib.Dec.{ltb}
use lib.ListN.{length, get_or}
use Rattle.errors.specs.Answer.{value, none}
use Rattle.broadword.specs.Fields.{flag}
use Rattle.elias_fano_words.specs.Times.{rising}
use Rattle.elias_fano_words.proofs.Rising.{rising_first}
use Rattle.elias_fano.specs.Ask.{below, greater, lesser, greatest, smallest}

-- ---- one time more at the front

module _ (v t : ℕ) (T : List ℕ) where
  pub below_yes : t < v → below v (t ∷ T) ≡ suc (below v T)
  unfolding below
  below_yes h = ap (λ (b : Bool). flag b + below v T) (lt-ltb t v h) ∙ omega arith

  pub below_no : v ≤ t → below v (t ∷ T) ≡ below v T
  unfolding below
  below_no h = ap (λ (b : Bool). flag b + below v T) (le-ltb t v h) ∙ (let e : 0 + below v T ≡ below v T = omega arith in e)

pub below_none : (v : ℕ) → below v [] ≡ 0
unfolding below
below_none v = refl

-- nothing is below 0
pub below_nothing : (l : ℕ) (T : List ℕ) → below (0 * 2 ^ l) T ≡ 0
below_nothing l [] = below_none (0 * 2 ^ l)
below_nothing l (t ∷ T) = below_no (0 * 2 ^ l) t T (omega arith) ∙ below_nothing l T

-- ---- a list in order

module _ (u v : ℕ) where
  -- none is below what the first is not below
  below_zero : (x : ℕ) (T : List ℕ) → rising u x T ≡ true → v ≤ x → below v T ≡ 0
  below_zero x [] r h = below_none v
  below_zero x (t ∷ T) r h =
      let f = rising_first u x t T r in
      let g : v ≤ t = le_trans h f.0 in
      below_no v t T g ∙ below_zero t T f.2 g

  pub below_le : (T : List ℕ) → below v T ≤ length T
  below_le [] = let e = below_none v in omega arith
  below_le (t ∷ T) = go (below_le T) (dec_lt t v)
    where
      go : below v T ≤ length T → Dec (t < v) → below v (t ∷ T) ≤ length (t ∷ T)
      go h (yes l) = let e = below_yes v t T l in omega arith
      go h (no g) = let e = below_no v t T (omega (arith, lt_of_not-le g)) in omega arith

  before_from : (x : ℕ) (T : List ℕ) (k : ℕ) → rising u x T ≡ true → k < below v T → get_or T k 0 < v
  before_from x [] k r h = absurd (let e = below_none v in omega arith)
  before_from x (t ∷ T) k r h = go (λ j. before_from t T j (rising_first u x t T r).2) k h (dec_lt t v)
    where
      go : ((j : ℕ) → j < below v T → get_or T j 0 < v) → (k : ℕ) → k < below v (t ∷ T) → Dec (t < v) → get_or (t ∷ T) k 0 < v
      go ih zero h (yes l) = l
      go ih (suc j) h (yes l) = ih j (let e = below_yes v t T l in omega arith)
      go ih k h (no g) =
          let l : v ≤ t = omega (arith, lt_of_not-le g) in
          let e = below_no v t T l ∙ below_zero t T (rising_first u x t T r).2 l in
          absurd (omega arith)

  after_from : (x : ℕ) (T : List ℕ) (k : ℕ) → rising u x T ≡ true → below v T ≤ k → k < length T → v ≤ get_or T k 0
  after_from x [] k r h q = absurd (not-suc-le-zero q)
  after_from x (t ∷ T) k r h q = go (λ j. after_from t T j (rising_first u x t T r).2) k h q (dec_lt t v)
    where
      go : ((j : ℕ) → below v T ≤ j → j < length T → v ≤ get_or T j 0) → (k : ℕ) → below v (t ∷ T) ≤ k → k < length (t ∷ T) → Dec (t < v) → v ≤ get_or (t ∷ T) k 0
      go ih zero h q (yes l) = absurd (let e = below_yes v t T l in omega arith)
      go ih (suc j) h q (yes l) = ih j (let e = below_yes v t T l in omega arith) (le_of_suc-le-suc q)
      go ih zero h q (no g) = omega (arith, lt_of_not-le g)
      go ih (suc j) h q (no g) =
          let l : v ≤ t = omega (arith, lt_of_not-le g) in
          ih j (let e = below_zero t T (rising_first u x t T r).2 l in omega arith) (le_of_suc-le-suc q)

  module _ (T : List ℕ) (r : rising u 0 T ≡ true) where
    -- those before that number are below the value, and the others are not
    pub below-before : (k : ℕ) → k < below v T → get_or T k 0 < v
    below-before k h = before_from 0 T k r h

    pub below-after : (k : ℕ) → below v T ≤ k → k < length T → v ≤ get_or T k 0
    below-after k h q = after_from 0 T k r h q

    -- and the other way round
    pub past_time : (k : ℕ) → k < length T → get_or T k 0 < v → k < below v T
    past_time k q h = lt_of_not-le (λ (g : below v T ≤ k). let a = below-after k g q in omega arith)

    pub upto_time : (k : ℕ) → v ≤ get_or T k 0 → below v T ≤ k
    upto_time k h = le_of_suc-le-suc (lt_of_not-le (λ (g : suc k ≤ below v T). let a = below-before k g in omega arith))

    -- so it is the one number between them
    pub below_is : (k : ℕ) → k ≤ length T → (0 < k → get_or T (k - 1) 0 < v) → (k < length T → v ≤ get_or T k 0) → below v T ≡ k
    below_is k q a b = go (dec_lt (below v T) k) (dec_lt k (below v T))
      where
        go : Dec (below v T < k) → Dec (k < below v T) → below v T ≡ k
        go (yes l) d = absurd (let x = below-after (k - 1) (omega arith) (omega arith) in let y = a (omega arith) in omega arith)
        go (no g) (yes l) = absurd (let x = below-before k l in let y = below_le T in let z = b (omega arith) in omega arith)
        go (no g) (no f) = omega (arith, lt_of_not-le g, lt_of_not-le f)

-- more times are below a greater value
pub below_mono : (v w : ℕ) (T : List ℕ) → v ≤ w → below v T ≤ below w T
below_mono v w [] h = let e = below_none v in omega arith
below_mono v w (t ∷ T) h = go (below_mono v w T h) (dec_lt t v) (dec_lt t w)
  where
    go : below v T ≤ below w T → Dec (t < v) → Dec (t < w) → below v (t ∷ T) ≤ below w (t ∷ T)
    go i (yes l) (yes m) = let a = below_yes v t T l in let b = below_yes w t T m in omega arith
    go i (yes l) (no g) = absurd (g (omega arith))
    go i (no g) (yes m) = let a = below_no v t T (omega (arith, lt_of_not-le g)) in let b = below_yes w t T m in omega arith
    go i (no g) (no f) = let a = below_no v t T (omega (arith, lt_of_not-le g)) in let b = below_no w t T (omega (arith, lt_of_not-le f)) in omega arith

-- ---- the neighbours

greater_is : (x y : ℕ) → x ≤ y → greater x (value y) ≡ value y
greater_is x y h = go (dec_lt x y)
  where
    go : Dec (x < y) → value (cond (ltb x y) y x) ≡ value y
    go (yes l) = simp (lt-ltb x y l)
    go (no g) = let e : x ≡ y = omega (arith, lt_of_not-le g) in ap (λ (b : Bool). value (cond b y x)) (le-ltb x y (omega (arith, lt_of_not-le g))) ∙ ap value e

lesser_is : (x y : ℕ) → x ≤ y → lesser x (value y) ≡ value x
lesser_is x y h = ap (λ (b : Bool). value (cond b y x)) (le-ltb y x h)

-- none of a list in order is below what it begins at
first_le : (u t : ℕ) (T : List ℕ) (j : ℕ) → rising u t T ≡ true → j < length T → t ≤ get_or T j 0
first_le u t [] j r h = absurd (not-suc-le-zero h)
first_le u t (s ∷ T) zero r h = (rising_first u t s T r).0
first_le u t (s ∷ T) (suc j) r h = le_trans (rising_first u t s T r).0 (first_le u s T j (rising_first u t s T r).2 (le_of_suc-le-suc h))

-- the greatest time at or below v is the last that is below v + 1
abbrev Greatest : ℕ → List ℕ → ℕ → Type 0
Greatest v T b = (b ≡ 0 → greatest v T ≡ none) × ((k : ℕ) → b ≡ suc k → greatest v T ≡ value (get_or T k 0))

module _ (u v : ℕ) where
  greatest_yes : (t : ℕ) (T : List ℕ) → t ≤ v → greatest v (t ∷ T) ≡ greater t (greatest v T)
  unfolding greatest
  greatest_yes t T h = ap (λ (b : Bool). cond b (greater t (greatest v T)) (greatest v T)) (le-leb t v h)

  greatest_no : (t : ℕ) (T : List ℕ) → v < t → greatest v (t ∷ T) ≡ greatest v T
  unfolding greatest
  greatest_no t T h = ap (λ (b : Bool). cond b (greater t (greatest v T)) (greatest v T)) (lt-leb t v h)

  greatest_empty : greatest v [] ≡ none
  unfolding greatest
  greatest_empty = refl

  greatest_from : (x : ℕ) (T : List ℕ) → rising u x T ≡ true → Greatest v T (below (suc v) T)
  greatest_from x [] r = ((λ _. greatest_empty), (λ k (e : below (suc v) [] ≡ suc k). absurd (let z = below_none (suc v) in omega arith)))
  greatest_from x (t ∷ T) r = go (below (suc v) T) refl (rising_first u x t T r).2 (greatest_from t T (rising_first u x t T r).2) (dec_le t v)
    where
      go : (b : ℕ) → below (suc v) T ≡ b → rising u t T ≡ true → Greatest v T (below (suc v) T) → Dec (t ≤ v) → Greatest v (t ∷ T) (below (suc v) (t ∷ T))
      go zero eb f ih (yes l) =
          let c = below_yes (suc v) t T (omega arith) in (
            (λ (z : below (suc v) (t ∷ T) ≡ 0). absurd (omega arith)),
            (λ k (e : below (suc v) (t ∷ T) ≡ suc k).
                let z : k ≡ 0 = omega arith in
                greatest_yes t T l ∙ ap (greater t) (ih.0 eb) ∙ ap (λ (j : ℕ). value (get_or (t ∷ T) j 0)) (sym z)),
          )
      go (suc j) eb f ih (yes l) =
          let c = below_yes (suc v) t T (omega arith) in (
            (λ (z : below (suc v) (t ∷ T) ≡ 0). absurd (omega arith)),
            (λ k (e : below (suc v) (t ∷ T) ≡ suc k).
                let z : k ≡ suc j = omega arith in
                greatest_yes t T l ∙ ap (greater t) (ih.1 j eb) ∙ greater_is t (get_or T j 0) (first_le u t T j f (let q = below_le u (suc v) T in omega arith)) ∙ ap (λ (i : ℕ). value (get_or (t ∷ T) i 0)) (sym z)),
          )
      go b eb f ih (no g) =
          let l : v < t = lt_of_not-le g in
          let z = below_zero u (suc v) t T f l in
          let c = below_no (suc v) t T l in (
            (λ _. greatest_no t T l ∙ ih.0 z),
            (λ k (e : below (suc v) (t ∷ T) ≡ suc k). absurd (omega arith)),
          )

  module _ (T : List ℕ) (r : rising u 0 T ≡ true) where
    pub greatest_none : below (suc v) T ≡ 0 → greatest v T ≡ none
    greatest_none = (greatest_from 0 T r).0

    pub greatest_some : (k : ℕ) → below (suc v) T ≡ suc k → greatest v T ≡ value (get_or T k 0)
    greatest_some = (greatest_from 0 T r).1

-- the smallest time at or above v is the first that is not below v
abbrev Smallest : ℕ → List ℕ → ℕ → Type 0
Smallest v T b = (length T ≤ b → smallest v T ≡ none) × (b < length T → smallest v T ≡ value (get_or T b 0))

module _ (u v : ℕ) where
  smallest_yes : (t : ℕ) (T : List ℕ) → v ≤ t → smallest v (t ∷ T) ≡ lesser t (smallest v T)
  unfolding smallest
  smallest_yes t T h = ap (λ (b : Bool). cond b (lesser t (smallest v T)) (smallest v T)) (le-leb v t h)

  smallest_no : (t : ℕ) (T : List ℕ) → t < v → smallest v (t ∷ T) ≡ smallest v T
  unfolding smallest
  smallest_no t T h = ap (λ (b : Bool). cond b (lesser t (smallest v T)) (smallest v T)) (lt-leb v t h)

  smallest_empty : smallest v [] ≡ none
  unfolding smallest
  smallest_empty = refl

  lesser_first : (t : ℕ) (T : List ℕ) → rising u t T ≡ true → Smallest v T 0 → lesser t (smallest v T) ≡ value t
  lesser_first t [] r ih = ap (lesser t) smallest_empty
  lesser_first t (s ∷ T) r ih = ap (lesser t) (ih.1 (omega arith)) ∙ lesser_is t s (rising_first u t s T r).0

  smallest_from : (x : ℕ) (T : List ℕ) → rising u x T ≡ true → Smallest v T (below v T)
  smallest_from x [] r = ((λ _. smallest_empty), (λ h. absurd (not-suc-le-zero h)))
  smallest_from x (t ∷ T) r = go (rising_first u x t T r).2 (smallest_from t T (rising_first u x t T r).2) (dec_lt t v)
    where
      go : rising u t T ≡ true → Smallest v T (below v T) → Dec (t < v) → Smallest v (t ∷ T) (below v (t ∷ T))
      go f ih (yes l) =
          let c = below_yes v t T l in (
            (λ h. smallest_no t T l ∙ ih.0 (omega arith)),
            (λ h. smallest_no t T l ∙ ih.1 (omega arith) ∙ ap (λ (i : ℕ). value (get_or (t ∷ T) i 0)) (sym c)),
          )
      go f ih (no g) =
          let l : v ≤ t = omega (arith, lt_of_not-le g) in
          let z = below_zero u v t T f l in
          let c : below v (t ∷ T) ≡ 0 = below_no v t T l ∙ z in (
            (λ h. absurd (omega arith)),
            (λ h. smallest_yes t T l ∙ lesser_first t T f (subst (Smallest v T) z ih) ∙ ap (λ (i : ℕ). value (get_or (t ∷ T) i 0)) (sym c)),
          )

  module _ (T : List ℕ) (r : rising u 0 T ≡ true) where
    pub smallest_none : length T ≤ below v T → smallest v T ≡ none
    smallest_none = (smallest_from 0 T r).0

    pub smallest_some : below v T < length T → smallest v T ≡ value (get_or T (below v T) 0)
    smallest_some = (smallest_from 0 T r).1
