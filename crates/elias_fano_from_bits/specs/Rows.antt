-- Document 01's examples of refusals 10, 11 and 13, and a record of word 11, length 4, as rows of one table, and the theorem that covers it. Assumes nothing.
use Rattle.std.specs.Prelude.{◌≡◌, refl, List, [], ◌∷◌, map, true, false, ℕ, replicate}
use Rattle.errors.specs.Answer.{Answer, value, refused, Outcome, leaves}
use Rattle.broadword.specs.Bits.{bit, count}
use Rattle.broadword.specs.Fields.{word}
use Rattle.broadword.specs.Places.{last}
use Rattle.bit_words.specs.Vector.{bit_at, bit_over, padding, invalid, number_words}
use Rattle.darray_positions.specs.Index.{table, pos, blocks, size, wide, spill, before, entry, lanes, lane, lane_word, lane_words, overflow, index_words}
use Rattle.darray_positions.specs.Positions.{places}
use Rattle.elias_fano_words.specs.Image.{high_from, low_number, high_words, low_words, image}
use Rattle.elias_fano_words.specs.Sizes.{low_len, high_len}
use Rattle.elias_fano_from_bits.specs.FromBits.{bits_image, ones_test, bits_test, from_bits_of}

-- what a call leaves by its definition, and what document 01 says
pub record Row : Type 0 where
  pub left : Outcome
  pub says : Outcome

-- 13 words of 5 are lent
abbrev lent : List ℕ
lent = replicate 13 5

abbrev row : Outcome → Answer → List ℕ → Row
row o a w = record { left = o; says = leaves a w }

unfoldable pub rows : List Row
rows =
    row (from_bits_of [] 0 true lent) (refused 10) lent
    ∷ row (from_bits_of (0 ∷ []) 4 true lent) (refused 11) lent
    ∷ row (from_bits_of (16 ∷ []) 4 true lent) (refused 13) lent
    ∷ row (from_bits_of (11 ∷ []) 4 true (replicate 10 5)) (refused 3) (replicate 10 5)
    ∷ row (from_bits_of (11 ∷ []) 4 true lent) (value 11) (4 ∷ 3 ∷ 3 ∷ 1 ∷ 0 ∷ 0 ∷ 37 ∷ 0 ∷ 0 ∷ 1 ∷ 0 ∷ replicate 2 5)
    ∷ row (from_bits_of (11 ∷ []) 4 false lent) (value 9) (4 ∷ 3 ∷ 3 ∷ 0 ∷ 0 ∷ 0 ∷ 37 ∷ 0 ∷ 0 ∷ replicate 4 5)
    ∷ []

pub rows_right : map (λ (r : Row). r.left) rows ≡ map (λ (r : Row). r.says) rows
unfolding rows bit count word last bit_at bit_over padding invalid number_words table pos blocks size wide spill before entry lanes lane lane_word lane_words overflow index_words places high_from low_number high_words low_words image low_len high_len bits_image ones_test bits_test from_bits_of
rows_right = refl
