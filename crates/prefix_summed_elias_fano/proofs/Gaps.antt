-- The gaps of a list of times: each by the times, in order, and a walk over them. Assumes nothing.
use mathlib.Core.Path.{◌≡◌, refl, sym, ap, ap₂, ◌∙◌}
use mathlib.Core.List.{List, [], ◌∷◌}
use mathlib.Core.Bool.{Bool, true, false, cond, ◌||◌}
use Prim.Native.Nat.{ℕ, zero, suc, ◌+◌, ◌-◌, ◌≤◌, ◌<◌}
use native.Mathlib.Decide.{dec_lt}
use native.Mathlib.Nat.{add-zero, lt_of_not-le, not-suc-le-zero, le_of_suc-le-suc}
use native.Mathlib.Omega.{arith}
use borrow.Author.Tests.{le-ltb, eqb-true}
use lib.Dec.{eqb, ltb}
use lib.ListN.{length, get_or}
use Rattle.errors.specs.Answer.{Answer, value, none, refused}
use Rattle.elias_fano_words.specs.Times.{rising}
use Rattle.elias_fano_words.proofs.Rising.{rising_first}
use Rattle.elias_fano.specs.Accept.{times, accepted}
use Rattle.elias_fano.specs.Ask.{nth, gap, ask, query}
use Rattle.elias_fano.proofs.Images.{no_times}
use Rattle.elias_fano_walk.specs.Walking.{value_step_of, walked}
use Rattle.elias_fano_walk.proofs.Steps.{walks}
use Rattle.prefix_summed_elias_fano.specs.Items.{askable, gaps_from, items_of, ItemWalks}
use Rattle.prefix_summed_elias_fano.specs.Sums.{access_of}

pub length-gaps : (x : ℕ) (T : List ℕ) → length (gaps_from x T) ≡ length T
unfolding gaps_from
length-gaps x [] = refl
length-gaps x (t ∷ T) = ap suc (length-gaps t T)

gap_from : (x : ℕ) (T : List ℕ) (k : ℕ) → k < length T → get_or (gaps_from x T) k 0 ≡ get_or T k 0 - get_or (x ∷ T) k 0
unfolding gaps_from
gap_from x [] k h = absurd (not-suc-le-zero h)
gap_from x (t ∷ T) zero h = refl
gap_from x (t ∷ T) (suc k) h = gap_from t T k (le_of_suc-le-suc h)

pub gap_at : (T : List ℕ) (k : ℕ) → k < length T → get_or (gaps_from 0 T) k 0 ≡ get_or T k 0 - get_or (0 ∷ T) k 0
gap_at T k h = gap_from 0 T k h

-- each time is at or past the one before it
pub rises_from : (u x : ℕ) (T : List ℕ) (k : ℕ) → rising u x T ≡ true → k < length T → get_or (x ∷ T) k 0 ≤ get_or T k 0
rises_from u x [] k r h = absurd (not-suc-le-zero h)
rises_from u x (t ∷ T) zero r h = (rising_first u x t T r).0
rises_from u x (t ∷ T) (suc k) r h = rises_from u t T k (rising_first u x t T r).2 (le_of_suc-le-suc h)

nth-gap : (T : List ℕ) (k : ℕ) → nth (gaps_from 0 T) k ≡ gap T k
unfolding nth gap
nth-gap T k = go (dec_lt k (length T))
  where
    m : length (gaps_from 0 T) ≡ length T
    m = length-gaps 0 T

    go : Dec (k < length T) → cond (ltb k (length (gaps_from 0 T))) (value (get_or (gaps_from 0 T) k 0)) none ≡ cond (ltb k (length T)) (value (get_or T k 0 - get_or (0 ∷ T) k 0)) none
    go (yes h) = ap₂ (λ (n x : ℕ). cond (ltb k n) (value x) none) m (gap_at T k h)
    go (no g) =
        let h : length T ≤ k = omega (arith, lt_of_not-le g) in
        ap (λ (b : Bool). cond b (value (get_or (gaps_from 0 T) k 0)) none) (le-ltb k (length (gaps_from 0 T)) (omega (arith, m)))
        ∙ sym (ap (λ (b : Bool). cond b (value (get_or T k 0 - get_or (0 ∷ T) k 0)) none) (le-ltb k (length T) h))

-- ---- no words

none_there : (i : List ℕ) (k : ℕ) → length i ≡ 0 → gap (times i) k ≡ none
unfolding gap
none_there i k e = ap (λ (T : List ℕ). cond (ltb k (length T)) (value (get_or T k 0 - get_or (0 ∷ T) k 0)) none) (no_times i e) ∙ ap (λ (b : Bool). cond b (value (0 - get_or (0 ∷ []) k 0)) none) (le-ltb k 0 (omega arith))

-- ---- a walk over the items

step_is : (T : List ℕ) (k j : ℕ) → walked (gaps_from 0 T) k j ≡ gap T (k + j)
unfolding ask
step_is T k j = walks 0 0 false (gaps_from 0 T) k j ∙ nth-gap T (k + j)

by : (a b : Bool) (x y : Answer) → (a ≡ true → y ≡ none) → x ≡ y → cond (a || b) x (refused 7) ≡ cond a none (cond b y (refused 7))
by true b x y h e = e ∙ h refl
by false true x y h e = e
by false false x y h e = refl

pub item_walks : ItemWalks
unfolding askable access_of query ask
item_walks i k j = by (eqb (length i) 0) (accepted i) (walked (items_of i) k j) (gap (times i) (k + j)) (λ e. none_there i (k + j) (eqb-true (length i) 0 e)) (step_is (times i) k j)

-- what may be asked is asked of the list
pub access_is : (i : List ℕ) (k : ℕ) → askable i ≡ true → access_of i k ≡ nth (items_of i) k
unfolding walked value_step_of
access_is i k ok = ap (access_of i) (sym (add-zero k)) ∙ sym (item_walks i k 0) ∙ ap (λ (b : Bool). cond b (nth (items_of i) k) (refused 7)) ok
