-- What each call of the index answers and leaves. Document 01 has no refusal for a select index alone: 13 is that of its bit
-- calls, 3 that of a short buffer, and 2 stands for a length of 2^63 bits or more, which no memory holds. Assumes nothing.
use Rattle.darray.specs.declared.inner.Sizes.{Sizes}
use Rattle.errors.specs.declared.Refusal.{Refusal}
use Rattle.std.specs.Prelude.{List, [], ◌∷◌, ◌++◌, Bool, true, false, ◌&&◌, cond, ℕ, ◌^◌, eqb, leb, ltb, length, drop, Ok, Err, Result}
use Rattle.errors.specs.Refusal.{number_of}
use Rattle.errors.specs.Answer.{Answer, value, refused, Outcome, leaves, of_option}
use Rattle.broadword.specs.Fields.{flag}
use Rattle.broadword.specs.Places.{select}
use Rattle.bit_words.specs.Vector.{bit_over, invalid}
use Rattle.darray_positions.specs.Positions.{positions}
use Rattle.darray_positions.specs.Index.{blocks, lanes, overflow, index_words}

-- ---- the cases of each answer, in document 01's terms

-- the numbers of positions, entries, lanes and overflow positions
pub data Measure : Type 0 where
  sizes : ℕ → ℕ → ℕ → ℕ → Measure
  unmeasured : ℕ → Measure

abbrev pub of_measured : Result Sizes Refusal → Measure
of_measured (Ok s) = sizes s.positions s.entries s.lanes s.overflow
of_measured (Err e) = unmeasured (number_of e)

-- ---- the calls

-- whether two lists of words are the same
unfoldable pub same : List ℕ → List ℕ → Bool
same [] [] = true
same [] (y ∷ ys) = false
same (x ∷ xs) [] = false
same (x ∷ xs) (y ∷ ys) = eqb x y && same xs ys

module _ (ws : List ℕ) (len : ℕ) (b : Bool) where
  unfoldable pub measure_of : Measure
  measure_of =
      cond (invalid ws len) (unmeasured 13)
      (cond (leb (2 ^ 63) len) (unmeasured 2)
      (sizes (length (positions b ws len)) (blocks (positions b ws len)) (lanes (positions b ws len)) (length (overflow (positions b ws len) (blocks (positions b ws len))))))

  -- the words past the index stay
  unfoldable pub build_index_of : List ℕ → Outcome
  build_index_of out =
      cond (invalid ws len) (leaves (refused 13) out)
      (cond (leb (2 ^ 63) len) (leaves (refused 2) out)
      (cond (ltb (length out) (length (index_words (positions b ws len)))) (leaves (refused 3) out)
      (leaves (value (length (index_words (positions b ws len))))
      (index_words (positions b ws len) ++ drop (length (index_words (positions b ws len))) out))))

  unfoldable pub validate_of : List ℕ → Answer
  validate_of index =
      cond (invalid ws len) (refused 13)
      (cond (leb (2 ^ 63) len) (refused 2)
      (value (flag (same index (index_words (positions b ws len))))))

  -- the index is built, and the one (true) or the zero (false) that k of its kind stand before is found through it
  unfoldable pub select_built_of : List ℕ → ℕ → Outcome
  select_built_of out k =
      cond (invalid ws len) (leaves (refused 13) out)
      (cond (leb (2 ^ 63) len) (leaves (refused 2) out)
      (cond (ltb (length out) (length (index_words (positions b ws len)))) (leaves (refused 3) out)
      (leaves (of_option (select (bit_over b ws) len k))
      (index_words (positions b ws len) ++ drop (length (index_words (positions b ws len))) out))))
