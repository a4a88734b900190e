-- What a sparse bit vector answers to each question: over its length, its rank choice and the list of its set places. Document 02 (ii). len is the length,
-- c the rank choice, S the list of set places, i the image. Assumes nothing.
use Rattle.std.specs.Prelude.{List, [], ◌∷◌, Bool, true, false, not, ◌&&◌, ◌||◌, cond, ℕ, eqb, leb, ltb, length, get_or}
use Rattle.errors.specs.Answer.{Answer, value, none, refused}
use Rattle.broadword.specs.Fields.{flag}
use Rattle.elias_fano.specs.Accept.{universe, declared, pushed, times, accepted_if}
use Rattle.elias_fano.specs.Ask.{nth, below, greatest, smallest}

pub data SparseQuestion : Type 0 where
  Access : ℕ → SparseQuestion
  Rank1 : ℕ → SparseQuestion
  Select1 : ℕ → SparseQuestion
  Predecessor1 : ℕ → SparseQuestion
  Successor1 : ℕ → SparseQuestion

-- whether p is in a list
unfoldable pub member : ℕ → List ℕ → Bool
member p [] = false
member p (x ∷ S) = eqb x p || member p S

module _ (len : ℕ) (c : Bool) (S : List ℕ) where
  -- 8 comes before the position is looked at
  unfoldable pub sparse_ask : SparseQuestion → Answer
  sparse_ask (Access p) = cond (leb len p) none (value (flag (member p S)))
  sparse_ask (Rank1 p) = cond (not c) (refused 8) (cond (ltb len p) none (value (below p S)))
  sparse_ask (Select1 k) = nth S k
  sparse_ask (Predecessor1 p) = cond (not c) (refused 8) (cond (leb len p) none (greatest p S))
  sparse_ask (Successor1 p) = cond (not c) (refused 8) (cond (leb len p) none (smallest p S))

-- no words are a vector of zeros of any length; words are one that opening accepts, without a repeat, with the length for its universe, the choice in
-- word 3 and as many times as it declares
unfoldable pub is_vector : ℕ → Bool → List ℕ → Bool
is_vector len c i =
    eqb (length i) 0
    || (accepted_if true i && (eqb (universe i) len && (eqb (get_or i 3 0) (flag c) && eqb (pushed i) (declared i))))

-- 7 comes first. No words hold no times
unfoldable pub sparse_query : ℕ → Bool → List ℕ → SparseQuestion → Answer
sparse_query len c i q = cond (is_vector len c i) (sparse_ask len c (times i) q) (refused 7)
