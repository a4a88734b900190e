-- Worked examples: lists of positions with the words of their index, as rows of one table, and the theorem that covers it.
use Rattle.std.specs.Prelude.{◌≡◌, refl, List, ◌∷◌, [], map, true, false, ℕ, ◌^◌, ◌-◌, ◌*◌}
use Rattle.broadword.specs.Bits.{bit, count}
use Rattle.broadword.specs.Fields.{word}
use Rattle.bit_words.specs.Vector.{bit_at, bit_over}
use Rattle.darray_positions.specs.Positions.{places, positions}
use Rattle.darray_positions.specs.Index.{table, pos, blocks, size, wide, spill, before, entry, lanes, lane, lane_word, lane_words, overflow, index_words}

pub record Row : Type 0 where
  pub positions : List ℕ
  pub words : List ℕ

abbrev pub row : List ℕ → List ℕ → Row
row ps ws = record { positions = ps; words = ws }

-- document 01's times 0 and 131,069 (l = 1) have the high bits 0 and 65,535, and 0 and 131,071 have 0 and 65,536
unfoldable pub rows : List Row
rows =
    row [] []
    ∷ row (0 ∷ 65535 ∷ []) (0 ∷ 0 ∷ [])
    ∷ row (0 ∷ 65536 ∷ []) ((2 ^ 64 - 1) ∷ 65535 ∷ 0 ∷ 65536 ∷ [])
    ∷ row (table (λ i. 3 * i) 130) (0 ∷ 81065617932681216 ∷ 384 ∷ [])
    ∷ []

-- every row's words are its index
pub rows_right : map (λ (r : Row). index_words r.positions) rows ≡ map (λ (r : Row). r.words) rows
unfolding rows table count word pos blocks size wide spill before entry lanes lane lane_word lane_words overflow index_words
rows_right = refl

-- the ones and the zeros of word 11 at length 4: the zeros past the length are none
pub bits_right : (positions true (11 ∷ []) 4 ∷ positions false (11 ∷ []) 4 ∷ []) ≡ ((0 ∷ 1 ∷ 3 ∷ []) ∷ (2 ∷ []) ∷ [])
unfolding places bit_over bit_at bit
bits_right = refl
