-- What a record answers to each question: over its settings and its list of times, and nothing of bits is in it. u is the universe, n the
-- declared count, c the rank choice, T the list of times. Document 01, "src/mii_sequences/elias_fano.rs" and "elias_fano/iter.rs"; the search is document 02 (i), the predecessor (iii). Assumes nothing.
use Rattle.std.specs.Prelude.{List, [], ◌∷◌, ◌++◌, Bool, not, ◌&&◌, cond, ℕ, suc, ◌+◌, ◌-◌, eqb, leb, ltb, length, get_or, take, drop}
use Rattle.errors.specs.Answer.{Answer, value, none, done, refused, Outcome, leaves}
use Rattle.broadword.specs.Fields.{flag}
use Rattle.elias_fano.specs.Accept.{universe, declared, ranked, times, accepted}

pub data Question : Type 0 where
  Select : ℕ → Question
  Delta : ℕ → Question
  Rank : ℕ → Question
  Predecessor : ℕ → Question
  Successor : ℕ → Question
  Binsearch : ℕ → Question
  BinsearchRange : ℕ → ℕ → ℕ → Question
  -- the j-th `next` of a walk from k, counted from 0
  Next : ℕ → ℕ → Question
  -- how many times a reading out from k gives, into so many words
  ReadFrom : ℕ → ℕ → Question
  Len : Question
  IsEmpty : Question
  Universe : Question
  HasRank : Question

-- ---- of a list of times

-- the time with the number k
unfoldable pub nth : List ℕ → ℕ → Answer
nth T k = cond (ltb k (length T)) (value (get_or T k 0)) none

-- the time with the number k less the one before it; the first is its own
unfoldable pub gap : List ℕ → ℕ → Answer
gap T k = cond (ltb k (length T)) (value (get_or T k 0 - get_or (0 ∷ T) k 0)) none

-- how many times are below t
unfoldable pub below : ℕ → List ℕ → ℕ
below t [] = 0
below t (x ∷ T) = flag (ltb x t) + below t T

-- x, or what is there and greater
abbrev pub greater : ℕ → Answer → Answer
greater x (value y) = value (cond (ltb x y) y x)
greater x none = value x
greater x done = value x
greater x (refused k) = value x

-- x, or what is there and less
abbrev pub lesser : ℕ → Answer → Answer
lesser x (value y) = value (cond (ltb y x) y x)
lesser x none = value x
lesser x done = value x
lesser x (refused k) = value x

-- the greatest time at or below v
unfoldable pub greatest : ℕ → List ℕ → Answer
greatest v [] = none
greatest v (x ∷ T) = cond (leb x v) (greater x (greatest v T)) (greatest v T)

-- the smallest time at or above v
unfoldable pub smallest : ℕ → List ℕ → Answer
smallest v [] = none
smallest v (x ∷ T) = cond (leb v x) (lesser x (smallest v T)) (smallest v T)

-- the number of the first time that is v, document 02's index; the first of the list has the number k
unfoldable pub first_index : ℕ → ℕ → List ℕ → Answer
first_index v k [] = none
first_index v k (x ∷ T) = cond (eqb x v) (value k) (first_index v (suc k) T)

-- the search for v: the first number from a on and below b with that time. None for an empty or reversed range; 9 for one that ends past the times
unfoldable pub searched : List ℕ → ℕ → ℕ → ℕ → Answer
searched T a b v = cond (leb b a) none (cond (ltb (length T) b) (refused 9) (first_index v a (take (b - a) (drop a T))))

-- the times that a reading out from k gives into so many words
abbrev pub read_out : List ℕ → ℕ → ℕ → List ℕ
read_out T k room = take room (drop k T)

-- ---- of a record

module _ (u n : ℕ) (c : Bool) (T : List ℕ) where
  unfoldable pub ask : Question → Answer
  ask (Select k) = nth T k
  ask (Delta k) = gap T k
  ask (Rank t) = cond (ltb u t) none (cond (eqb t u) (value (length T)) (cond (not c) (refused 8) (value (below t T))))
  ask (Predecessor v) = cond (not c && ltb (suc v) u) (refused 8) (greatest v T)
  ask (Successor v) = cond (leb u v) none (cond (not c) (refused 8) (smallest v T))
  ask (Binsearch v) = searched T 0 (length T) v
  ask (BinsearchRange a b v) = searched T a b v
  ask (Next k j) = nth T (k + j)
  ask (ReadFrom k room) = value (length (read_out T k room))
  ask Len = value (length T)
  ask IsEmpty = value (flag (eqb (length T) 0))
  ask Universe = value u
  ask HasRank = value (flag c)

-- ---- of an image

-- of an accepted image: what it holds is asked
abbrev pub asked : List ℕ → Question → Answer
asked i = ask (universe i) (declared i) (ranked i) (times i)

-- 7 comes first
unfoldable pub query : List ℕ → Question → Answer
query i q = cond (accepted i) (asked i q) (refused 7)

-- a reading out from k leaves the words after those that it fills
unfoldable pub filled : List ℕ → ℕ → List ℕ → List ℕ
filled T k out = read_out T k (length out) ++ drop (length (read_out T k (length out))) out

unfoldable pub read_from_of : List ℕ → ℕ → List ℕ → Outcome
read_from_of i k out = leaves (query i (ReadFrom k (length out))) (cond (accepted i) (filled (times i) k out) out)
