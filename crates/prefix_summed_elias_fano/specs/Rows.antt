-- Document 01's examples of prefix sums as rows of one table, and the theorem that covers it. Assumes nothing.
use Rattle.std.specs.Prelude.{◌≡◌, refl, List, [], ◌∷◌, ◌++◌, map, ℕ, ◌-◌, ◌^◌, replicate}
use Rattle.errors.specs.Answer.{Answer, value, none, refused, Outcome, leaves}
use Rattle.broadword.specs.Bits.{bit, count}
use Rattle.broadword.specs.Fields.{word}
use Rattle.broadword.specs.Places.{last, select}
use Rattle.bit_words.specs.Vector.{bit_at, bit_over, number_words}
use Rattle.darray_positions.specs.Index.{table, pos, blocks, size, wide, spill, before, entry, lanes, lane, lane_word, lane_words, overflow, index_words}
use Rattle.darray_positions.specs.Positions.{places}
use Rattle.darray.specs.Queries.{same}
use Rattle.elias_fano_words.specs.Image.{high_from, low_number, high_words, low_words, image}
use Rattle.elias_fano_words.specs.Sizes.{low_len, high_len}
use Rattle.elias_fano_words.specs.Times.{rising, time_in, times_in}
use Rattle.elias_fano.specs.Accept.{fit, times, accepted}
use Rattle.elias_fano.specs.Ask.{gap, ask, query}
use Rattle.prefix_summed_elias_fano.specs.Sums.{sum, sums_from, sums_image, slice_test, from_slice_of, access_of, len_of}

-- what a call leaves by its definition, and what document 01 says
pub record Row : Type 0 where
  pub left : Outcome
  pub says : Outcome

abbrev call : Outcome → Answer → List ℕ → Row
call o a w = record { left = o; says = leaves a w }

-- a question leaves no words
abbrev row : Answer → Answer → Row
row a s = record { left = leaves a []; says = leaves s [] }

-- the image of the items 3 0 5: their sums are 3 3 8, below the universe 9
unfoldable pub three : List ℕ
three = 9 ∷ 3 ∷ 3 ∷ 0 ∷ 0 ∷ 0 ∷ 70 ∷ 3 ∷ 1 ∷ 0 ∷ []

unfoldable pub rows : List Row
rows =
    call (from_slice_of (3 ∷ 0 ∷ 5 ∷ []) (replicate 12 5)) (value 10) (three ++ replicate 2 5)
    ∷ row (access_of three 0) (value 3)
    ∷ row (access_of three 1) (value 0)
    ∷ row (access_of three 2) (value 5)
    ∷ row (access_of three 3) none
    ∷ row (len_of three) (value 3)
    ∷ call (from_slice_of ((2 ^ 64 - 1) ∷ []) (replicate 12 5)) (refused 12) (replicate 12 5)
    ∷ call (from_slice_of [] (replicate 2 5)) (value 0) (replicate 2 5)
    ∷ row (access_of [] 0) none
    ∷ row (len_of []) (value 0)
    ∷ []

pub rows_right : map (λ (r : Row). r.left) rows ≡ map (λ (r : Row). r.says) rows
unfolding rows three bit count word last select bit_at bit_over number_words table pos blocks size wide spill before entry lanes lane lane_word lane_words overflow index_words places same low_len high_len high_from low_number high_words low_words image rising time_in times_in fit times accepted gap ask query sum sums_from sums_image slice_test from_slice_of access_of len_of
rows_right = refl
