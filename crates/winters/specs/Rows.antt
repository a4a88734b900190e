-- Spans side by side by examples, as rows of one table. Assumes nothing.
use Rattle.std.specs.Prelude.{◌≡◌, refl, List, [], ◌∷◌, map, Bool, true, false, ℕ, ◌-◌, ◌^◌}
use Rattle.errors.specs.Answer.{value, refused, Outcome, leaves}
use Rattle.broadword.specs.Bits.{bit, count}
use Rattle.broadword.specs.Fields.{word}
use Rattle.broadword.specs.Places.{last, select}
use Rattle.bit_words.specs.Vector.{bit_at, bit_over, number_words}
use Rattle.darray_positions.specs.Index.{table, pos, blocks, size, wide, spill, before, entry, lanes, lane, lane_word, lane_words, overflow, index_words}
use Rattle.darray_positions.specs.Positions.{places}
use Rattle.darray.specs.Queries.{same}
use Rattle.elias_fano_words.specs.Image.{high_from, low_number, high_words, low_words, image}
use Rattle.elias_fano_words.specs.Sizes.{low_len, high_len}
use Rattle.elias_fano_words.specs.Times.{rising, time_in, times_in}
use Rattle.elias_fano.specs.Accept.{fit, times, accepted}
use Rattle.winters.specs.Winters.{in_span, gaps_from, gaps, least_from, least, summary_of, span_words, compare_answer, compare_of}

-- what a call leaves by its definition, and what it has to
pub record Row : Type 0 where
  pub outcome : Outcome
  pub says : Outcome

abbrev row : Outcome → Outcome → Row
row a b = record { outcome = a; says = b }

-- the example of document 01: u 20, n 4, with the rank index or without it
unfoldable pub four : Bool → List ℕ
four c = image 20 4 c (3 ∷ 4 ∷ 4 ∷ 13 ∷ [])

-- so many words for one span, and for two
abbrev one : List ℕ
one = 90 ∷ 91 ∷ 92 ∷ 93 ∷ []

abbrev two : List ℕ
two = 90 ∷ 91 ∷ 92 ∷ 93 ∷ 94 ∷ 95 ∷ 96 ∷ 97 ∷ []

unfoldable pub rows : List Row
rows =
    -- the end of a span belongs to the next; a repeated time has the gap 0
    row (compare_of (four true) (0 ∷ 4 ∷ 20 ∷ []) two) (leaves (value 2) (1 ∷ 3 ∷ 3 ∷ 0 ∷ 3 ∷ 4 ∷ 13 ∷ 0 ∷ []))
    -- no rank index is needed
    ∷ row (compare_of (four false) (3 ∷ 14 ∷ []) one) (leaves (value 1) (4 ∷ 3 ∷ 13 ∷ 0 ∷ []))
    ∷ row (compare_of (four false) (3 ∷ 13 ∷ []) one) (leaves (value 1) (3 ∷ 3 ∷ 4 ∷ 0 ∷ []))
    -- one time only, and none
    ∷ row (compare_of (four true) (5 ∷ 20 ∷ []) one) (leaves (value 1) (1 ∷ 13 ∷ 13 ∷ 0 ∷ []))
    ∷ row (compare_of (four true) (5 ∷ 13 ∷ []) one) (leaves (value 1) (0 ∷ 0 ∷ 0 ∷ 0 ∷ []))
    -- an empty span, and a reversed one before one that has times
    ∷ row (compare_of (four true) (4 ∷ 4 ∷ []) one) (leaves (value 1) (0 ∷ 0 ∷ 0 ∷ 0 ∷ []))
    ∷ row (compare_of (four true) (20 ∷ 0 ∷ 4 ∷ []) two) (leaves (value 2) (0 ∷ 0 ∷ 0 ∷ 0 ∷ 1 ∷ 3 ∷ 3 ∷ 0 ∷ []))
    -- no span: fewer than two seconds
    ∷ row (compare_of (four true) [] one) (leaves (value 0) one)
    ∷ row (compare_of (four true) (7 ∷ []) []) (leaves (value 0) [])
    -- words after those of the spans stay
    ∷ row (compare_of (four true) (0 ∷ 20 ∷ []) two) (leaves (value 1) (4 ∷ 3 ∷ 13 ∷ 0 ∷ 94 ∷ 95 ∷ 96 ∷ 97 ∷ []))
    -- 3 where out is short; 7 comes before it; both leave every word
    ∷ row (compare_of (four true) (0 ∷ 4 ∷ 20 ∷ []) one) (leaves (refused 3) one)
    ∷ row (compare_of (20 ∷ four true) (0 ∷ 4 ∷ 20 ∷ []) one) (leaves (refused 7) one)
    ∷ row (compare_of [] (0 ∷ 20 ∷ []) one) (leaves (refused 7) one)
    -- the shortest gap, wherever it stands
    ∷ row (compare_answer (2 ∷ 9 ∷ 12 ∷ 17 ∷ []) (0 ∷ 20 ∷ []) one) (leaves (value 1) (4 ∷ 2 ∷ 17 ∷ 3 ∷ []))
    ∷ row (compare_answer (2 ∷ 9 ∷ 12 ∷ 17 ∷ []) (0 ∷ 10 ∷ 20 ∷ []) two) (leaves (value 2) (2 ∷ 2 ∷ 9 ∷ 7 ∷ 2 ∷ 12 ∷ 17 ∷ 5 ∷ []))
    -- large times
    ∷ row (compare_answer (0 ∷ (2 ^ 64 - 2) ∷ []) (0 ∷ (2 ^ 64 - 1) ∷ []) one) (leaves (value 1) (2 ∷ 0 ∷ (2 ^ 64 - 2) ∷ (2 ^ 64 - 2) ∷ []))
    ∷ []

pub rows_right : map (λ (r : Row). r.outcome) rows ≡ map (λ (r : Row). r.says) rows
unfolding rows four bit count word last select bit_at bit_over number_words table pos blocks size wide spill before entry lanes lane lane_word lane_words overflow index_words places same high_from low_number high_words low_words image low_len high_len rising time_in times_in fit times accepted in_span gaps_from gaps least_from least summary_of span_words compare_answer compare_of
rows_right = refl
