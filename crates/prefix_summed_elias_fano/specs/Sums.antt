-- The record of the prefix sums of a list of items, document 01, "src/int_vectors/prefix_summed_elias_fano.rs". A is the list of items. Assumes nothing.
use Rattle.std.specs.Prelude.{◌≡◌, List, [], ◌∷◌, ◌++◌, false, cond, ℕ, suc, ◌+◌, ◌-◌, ◌^◌, eqb, leb, ltb, length, take, drop}
use Rattle.errors.specs.Answer.{Answer, value, none, done, refused, Outcome, leaves, passing}
use Rattle.elias_fano_words.specs.Image.{image}
use Rattle.elias_fano.specs.Ask.{Delta, Len, nth, query}

unfoldable pub sum : List ℕ → ℕ
sum [] = 0
sum (a ∷ A) = a + sum A

-- x and the first item, and the second, and so on
unfoldable pub sums_from : ℕ → List ℕ → List ℕ
sums_from x [] = []
sums_from x (a ∷ A) = (x + a) ∷ sums_from (x + a) A

abbrev pub sums : List ℕ → List ℕ
sums A = sums_from 0 A

-- "u is 1 plus the sum"; "as built, word 3 is 0"
unfoldable pub sums_image : List ℕ → List ℕ
sums_image A = image (suc (sum A)) (length A) false (sums A)

-- 2, 12, 3, with k words lent
unfoldable pub slice_test : List ℕ → ℕ → Answer
slice_test A k =
    cond (ltb 16777216 (length A)) (refused 2)
    (cond (leb (2 ^ 64 - 1) (sum A)) (refused 12)
    (cond (ltb k (length (sums_image A))) (refused 3)
    done))

-- "an empty list is accepted and has no words"
unfoldable pub from_slice_of : List ℕ → List ℕ → Outcome
from_slice_of A w =
    cond (eqb (length A) 0) (leaves (value 0) w)
    (passing (slice_test A (length w)) w (leaves (value (length (sums_image A))) (sums_image A ++ drop (length (sums_image A)) w)))

-- ---- questions

-- "access to place p is `delta(p)`", over every accepted image; no words hold no items
unfoldable pub access_of : List ℕ → ℕ → Answer
access_of i p = cond (eqb (length i) 0) none (query i (Delta p))

-- "the length is m"
unfoldable pub len_of : List ℕ → Answer
len_of i = cond (eqb (length i) 0) (value 0) (query i Len)

-- what is written is read again: access gives each item, then none, and the length is theirs
pub record Restored (A i : List ℕ) : Type 0 where
  pub access : (p : ℕ) → access_of i p ≡ nth A p
  pub len : len_of i ≡ value (length A)

-- of the first k words that an accepted call leaves
abbrev pub ReadsBack : Type 0
ReadsBack = (A w : List ℕ) (k : ℕ) (x : List ℕ) → from_slice_of A w ≡ leaves (value k) x → Restored A (take k x)
