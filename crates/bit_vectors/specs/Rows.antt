-- Document 01's "Odd spots" of broadword.rs, bit_vector.rs and unary.rs as rows of one table, those of predecessor1 as document 02 (v) has them, and the theorem that covers the table.
use Rattle.std.specs.Prelude.{◌≡◌, refl, List, [], ◌∷◌, map, true, false, ℕ, ◌-◌, ◌^◌}
use Rattle.errors.specs.Answer.{Answer, value, none, refused, of_option}
use Rattle.broadword.specs.Bits.{bit, count}
use Rattle.broadword.specs.Fields.{word}
use Rattle.broadword.specs.Places.{last, select}
use Rattle.bit_words.specs.Vector.{bit_at, bit_over, padding, invalid}
use Rattle.bit_vectors.specs.Queries.{if_valid, get_bits_of, rank1_of, num_ones_of, select_bit_of, predecessor1_of, set_bit_of, push_bits_of}
use Rattle.bit_vectors.specs.Walk.{rest_of, walk_at, Step, walk_step_of, next_of, skip1_of, skip0_of}
use Rattle.bit_vectors.specs.declared.unary.Unary.{Unary}

-- a question's answer by its definition, and what document 01 says
pub record Row : Type 0 where
  pub answer : Answer
  pub expected : Answer

abbrev row : Answer → Answer → Row
row a e = record { answer = a; expected = e }

-- word 11, length 4
abbrev eleven : List ℕ
eleven = 11 ∷ []

-- a walk over it from its first place, and after one `next`
abbrev fresh : Unary
fresh = walk_at eleven 4 0 0

abbrev after : Step → Unary
after s = s.walk

unfoldable pub rows : List Row
rows =
    -- lsb(0) and msb(0) are none; select_in_word is none when the word has k or fewer ones
    row (of_option (select (bit 0) 64 0)) none
    ∷ row (of_option (last (bit 0) 64)) none
    ∷ row (of_option (select (bit 67) 64 2)) (value 6)
    ∷ row (of_option (select (bit 67) 64 3)) none
    -- get_bits: a width over 64, an end past the length, one that wraps in the Rust, width 0 at the length
    ∷ row (get_bits_of eleven 4 0 65) none
    ∷ row (get_bits_of eleven 4 3 2) none
    ∷ row (get_bits_of eleven 4 (2 ^ 64 - 1) 1) none
    ∷ row (get_bits_of eleven 4 4 0) (value 0)
    ∷ row (get_bits_of eleven 4 1 3) (value 5)
    -- rank1 at the length is the count of ones, past it none
    ∷ row (rank1_of eleven 4 4) (value 3)
    ∷ row (rank1_of eleven 4 5) none
    -- select0 never reports padding
    ∷ row (select_bit_of eleven 4 false 0) (value 2)
    ∷ row (select_bit_of eleven 4 false 1) none
    -- predecessor1 at or past the length is the last one, and none where there is none; set padding is refused, and a later word is no part of the vector
    ∷ row (predecessor1_of eleven 4 2) (value 1)
    ∷ row (predecessor1_of eleven 4 4) (value 3)
    ∷ row (predecessor1_of eleven 4 5) (value 3)
    ∷ row (predecessor1_of (0 ∷ []) 4 4) none
    ∷ row (predecessor1_of (16 ∷ []) 4 4) (refused 13)
    ∷ row (predecessor1_of (1 ∷ 1 ∷ []) 64 64) (value 0)
    -- after `next` gave 0, `skip0(0)` gives 2
    ∷ row (next_of eleven 4 fresh).answer (value 0)
    ∷ row (skip0_of eleven 4 (after (next_of eleven 4 fresh)) 0).answer (value 2)
    -- `skip1(5)` fails, and the walk stays ended
    ∷ row (skip1_of eleven 4 fresh 5).answer none
    ∷ row (next_of eleven 4 (after (skip1_of eleven 4 fresh 5))).answer none
    -- the examples of refusals 13 to 16
    ∷ row (num_ones_of (16 ∷ []) 4) (refused 13)
    ∷ row (push_bits_of eleven 4 0 65).answer (refused 14)
    ∷ row (push_bits_of eleven 64 1 1).answer (refused 15)
    ∷ row (set_bit_of eleven 4 4 true).answer (refused 16)
    ∷ []

-- every row's answer is the expected one
pub rows_right : map (λ (r : Row). r.answer) rows ≡ map (λ (r : Row). r.expected) rows
unfolding rows bit count word last select bit_at bit_over padding invalid if_valid get_bits_of rank1_of num_ones_of select_bit_of predecessor1_of set_bit_of push_bits_of rest_of walk_step_of
rows_right = refl
