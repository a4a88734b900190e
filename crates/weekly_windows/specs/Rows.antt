-- Document 02 (vi) by examples, as rows of one table. Assumes nothing.
use Rattle.std.specs.Prelude.{◌≡◌, refl, List, [], ◌∷◌, map, Bool, true, false, ℕ, zero, suc, ◌-◌, ◌^◌}
use Rattle.errors.specs.Answer.{Answer, value, refused}
use Rattle.broadword.specs.Bits.{bit, count}
use Rattle.broadword.specs.Fields.{word}
use Rattle.broadword.specs.Places.{last, select}
use Rattle.bit_words.specs.Vector.{bit_at, bit_over, number_words}
use Rattle.darray_positions.specs.Index.{table, pos, blocks, size, wide, spill, before, entry, lanes, lane, lane_word, lane_words, overflow, index_words}
use Rattle.darray_positions.specs.Positions.{places}
use Rattle.darray.specs.Queries.{same}
use Rattle.elias_fano_words.specs.Image.{high_from, low_number, high_words, low_words, image}
use Rattle.elias_fano_words.specs.Sizes.{low_len, high_len}
use Rattle.elias_fano_words.specs.Times.{rising, time_in, times_in}
use Rattle.elias_fano.specs.Accept.{fit, times, accepted}
use Rattle.weekly_windows.specs.Windows.{in_some, in_form, are_windows, count_in, count_answer, count_of}

-- what a call answers by its definition, and what the document says
pub record Row : Type 0 where
  pub answer : Answer
  pub says : Answer

abbrev row : Answer → Answer → Row
row a b = record { answer = a; says = b }

-- the example of document 01: u 20, n 4, with the rank index or without it
unfoldable pub four : Bool → List ℕ
four c = image 20 4 c (3 ∷ 4 ∷ 4 ∷ 13 ∷ [])

-- Monday 06:00:00, 07:59:59 and 08:00:00, twice Monday 06:00:00 of the next week, and once of the third
unfoldable pub mornings : List ℕ
mornings = 21600 ∷ 28799 ∷ 28800 ∷ 626400 ∷ 626400 ∷ 1231200 ∷ []

-- so many windows, each the second 0
unfoldable pub firsts : ℕ → List ℕ
firsts zero = []
firsts (suc k) = 0 ∷ 1 ∷ firsts k

unfoldable pub rows : List Row
rows =
    -- a belongs to the window, b does not
    row (count_of (four true) (3 ∷ 13 ∷ []) 0 20) (value 3)
    -- s belongs to the span, e does not; no rank index is needed
    ∷ row (count_of (four false) (0 ∷ 604800 ∷ []) 4 13) (value 2)
    -- 7 comes before 17
    ∷ row (count_of (four true) (0 ∷ []) 0 20) (refused 17)
    ∷ row (count_of (20 ∷ four true) (0 ∷ []) 0 20) (refused 7)
    ∷ row (count_of [] [] 0 20) (refused 7)
    -- 06:00 to 08:00 on Mondays, in every week
    ∷ row (count_answer mornings (21600 ∷ 28800 ∷ []) 0 2000000) (value 5)
    ∷ row (count_answer mornings (21600 ∷ 28800 ∷ []) 21600 28799) (value 1)
    ∷ row (count_answer mornings (21600 ∷ 28800 ∷ []) 626400 626401) (value 2)
    -- a time in two windows counts once, in any order of the windows
    ∷ row (count_answer mornings (25000 ∷ 30000 ∷ 21600 ∷ 28800 ∷ []) 0 2000000) (value 6)
    ∷ row (count_answer mornings (21600 ∷ 28800 ∷ 21600 ∷ 28800 ∷ []) 0 2000000) (value 5)
    -- the whole week, no windows, an empty span, a reversed one
    ∷ row (count_answer mornings (0 ∷ 604800 ∷ []) 0 2000000) (value 6)
    ∷ row (count_answer mornings [] 0 2000000) (value 0)
    ∷ row (count_answer mornings (0 ∷ 604800 ∷ []) 626400 626400) (value 0)
    ∷ row (count_answer mornings (0 ∷ 604800 ∷ []) 2000000 0) (value 0)
    -- 17: an odd number of words, a not below b, b past the week's end; also for a reversed span
    ∷ row (count_answer mornings (0 ∷ 1 ∷ 2 ∷ []) 0 2000000) (refused 17)
    ∷ row (count_answer mornings (0 ∷ 9 ∷ 5 ∷ 5 ∷ []) 0 2000000) (refused 17)
    ∷ row (count_answer mornings (0 ∷ 604801 ∷ []) 2000000 0) (refused 17)
    -- 32 windows are taken, 33 are not
    ∷ row (count_answer (0 ∷ 1 ∷ []) (firsts 32) 0 2) (value 1)
    ∷ row (count_answer (0 ∷ 1 ∷ []) (firsts 33) 0 2) (refused 17)
    -- 2^64 - 2 is the second 25,214 of its week
    ∷ row (count_answer ((2 ^ 64 - 2) ∷ []) (25214 ∷ 25215 ∷ []) 0 (2 ^ 64 - 1)) (value 1)
    ∷ row (count_answer ((2 ^ 64 - 2) ∷ []) (25214 ∷ 25215 ∷ []) 0 (2 ^ 64 - 2)) (value 0)
    ∷ []

pub rows_right : map (λ (r : Row). r.answer) rows ≡ map (λ (r : Row). r.says) rows
unfolding rows four mornings firsts bit count word last select bit_at bit_over number_words table pos blocks size wide spill before entry lanes lane lane_word lane_words overflow index_words places same high_from low_number high_words low_words image low_len high_len rising time_in times_in fit times accepted in_some in_form are_windows count_in count_answer count_of
rows_right = refl
