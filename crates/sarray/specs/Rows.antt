-- The examples of the Rust's SArray and of document 02 (ii), as rows of two tables. Assumes nothing.
use Rattle.std.specs.Prelude.{◌≡◌, refl, List, [], ◌∷◌, map, true, false, ℕ}
use Rattle.errors.specs.Answer.{Answer, value, none, refused, Outcome, leaves}
use Rattle.broadword.specs.Bits.{bit, count}
use Rattle.broadword.specs.Fields.{word}
use Rattle.broadword.specs.Places.{last, select}
use Rattle.bit_words.specs.Vector.{bit_at, bit_over, padding, invalid, number_words}
use Rattle.darray_positions.specs.Index.{table, pos, blocks, size, wide, spill, before, entry, lanes, lane, lane_word, lane_words, overflow, index_words}
use Rattle.darray_positions.specs.Positions.{places}
use Rattle.darray.specs.Queries.{same}
use Rattle.elias_fano_words.specs.Image.{high_from, low_number, high_words, low_words, image}
use Rattle.elias_fano_words.specs.Sizes.{low_len, high_len}
use Rattle.elias_fano_words.specs.Times.{rising, unrepeated, time_in, times_in}
use Rattle.elias_fano.specs.Accept.{fit, times, accepted}
use Rattle.elias_fano.specs.Ask.{nth, below, greatest, smallest}
use Rattle.elias_fano_from_bits.specs.FromBits.{bits_image, ones_test}
use Rattle.sarray.specs.Ask.{Access, Rank1, Select1, Predecessor1, Successor1, member, sparse_ask, is_vector, sparse_query}
use Rattle.sarray.specs.Build.{sparse_test, sparse_from_bits}

-- what a question answers by its definition, and what the documents say
pub record Row : Type 0 where
  pub answer : Answer
  pub says : Answer

abbrev row : Answer → Answer → Row
row a b = record { answer = a; says = b }

-- the image of the bits 1 0 0 1, with the rank index
unfoldable pub four : List ℕ
four = bits_image (9 ∷ []) 4 true

unfoldable pub rows : List Row
rows =
    row (sparse_query 4 true four (Access 0)) (value 1)
    ∷ row (sparse_query 4 true four (Access 1)) (value 0)
    ∷ row (sparse_query 4 true four (Access 4)) none
    ∷ row (sparse_query 4 true four (Rank1 1)) (value 1)
    ∷ row (sparse_query 4 true four (Rank1 3)) (value 1)
    ∷ row (sparse_query 4 true four (Rank1 4)) (value 2)
    ∷ row (sparse_query 4 true four (Rank1 5)) none
    ∷ row (sparse_query 4 true four (Select1 1)) (value 3)
    ∷ row (sparse_query 4 true four (Select1 2)) none
    ∷ row (sparse_query 4 true four (Predecessor1 2)) (value 0)
    ∷ row (sparse_query 4 true four (Predecessor1 4)) none
    ∷ row (sparse_query 4 true four (Successor1 1)) (value 3)
    ∷ row (sparse_query 4 true four (Successor1 4)) none
    -- zeros
    ∷ row (sparse_query 4 true [] (Access 3)) (value 0)
    ∷ row (sparse_query 4 true [] (Rank1 4)) (value 0)
    ∷ row (sparse_query 4 true [] (Rank1 5)) none
    ∷ row (sparse_query 4 true [] (Select1 0)) none
    -- 8 comes before the position
    ∷ row (sparse_query 4 false [] (Rank1 5)) (refused 8)
    ∷ row (sparse_query 4 false (bits_image (9 ∷ []) 4 false) (Predecessor1 4)) (refused 8)
    ∷ row (sparse_query 4 false (bits_image (9 ∷ []) 4 false) (Select1 1)) (value 3)
    -- 7: another length, another choice, fewer times than declared, a repeat
    ∷ row (sparse_query 5 true four (Access 0)) (refused 7)
    ∷ row (sparse_query 4 false four (Rank1 0)) (refused 7)
    ∷ row (sparse_query 4 true (image 4 3 true (0 ∷ 3 ∷ [])) (Access 0)) (refused 7)
    ∷ row (sparse_query 4 true (image 4 2 true (3 ∷ 3 ∷ [])) (Select1 0)) (refused 7)
    ∷ []

pub rows_right : map (λ (r : Row). r.answer) rows ≡ map (λ (r : Row). r.says) rows
unfolding rows four bit count word last select bit_at bit_over padding invalid number_words table pos blocks size wide spill before entry lanes lane lane_word lane_words overflow index_words places same high_from low_number high_words low_words image low_len high_len rising unrepeated time_in times_in fit times accepted nth below greatest smallest bits_image member sparse_ask is_vector sparse_query
rows_right = refl

-- what a call leaves by its definition, and what the documents say
pub record Left : Type 0 where
  pub left : Outcome
  pub says : Outcome

abbrev left : Outcome → Answer → List ℕ → Left
left o a w = record { left = o; says = leaves a w }

-- zeros answer with no words, whatever is lent
unfoldable pub lefts : List Left
lefts =
    left (sparse_from_bits [] 0 true (5 ∷ [])) (value 0) (5 ∷ [])
    ∷ left (sparse_from_bits (0 ∷ []) 4 false []) (value 0) []
    ∷ left (sparse_from_bits (16 ∷ []) 4 false (5 ∷ [])) (refused 13) (5 ∷ [])
    ∷ left (sparse_from_bits (8 ∷ []) 4 false (5 ∷ [])) (refused 3) (5 ∷ [])
    ∷ []

pub lefts_right : map (λ (r : Left). r.left) lefts ≡ map (λ (r : Left). r.says) lefts
unfolding lefts bit count word last bit_at bit_over padding invalid number_words table pos blocks size wide spill before entry lanes lane lane_word lane_words overflow index_words places high_from low_number high_words low_words image low_len high_len bits_image ones_test sparse_test sparse_from_bits
lefts_right = refl
