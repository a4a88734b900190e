-- The record of a bit vector: its times are the places of the ones. Document 01, "from bits". ws are the words of the bits, len is their length. Assumes nothing.
use Rattle.std.specs.Prelude.{◌≡◌, List, ◌++◌, Bool, true, cond, ℕ, ◌^◌, ◌<◌, eqb, ltb, length, take, drop}
use Rattle.errors.specs.Answer.{Answer, value, done, refused, Outcome, leaves, passing}
use Rattle.bit_words.specs.Vector.{invalid}
use Rattle.darray_positions.specs.Positions.{positions}
use Rattle.elias_fano_words.specs.Image.{image}
use Rattle.elias_fano.specs.Ask.{Question, ask, query}

-- the places of the ones
abbrev pub ones_of : List ℕ → ℕ → List ℕ
ones_of ws len = positions true ws len

-- u is the length, n and m the number of ones
unfoldable pub bits_image : List ℕ → ℕ → Bool → List ℕ
bits_image ws len c = image len (length (ones_of ws len)) c (ones_of ws len)

-- 2, 3, with k words lent
unfoldable pub ones_test : List ℕ → ℕ → Bool → ℕ → Answer
ones_test ws len c k =
    cond (ltb 16777216 (length (ones_of ws len))) (refused 2)
    (cond (ltb k (length (bits_image ws len c))) (refused 3)
    done)

-- 13, 10 and 11 come before these
unfoldable pub bits_test : List ℕ → ℕ → Bool → ℕ → Answer
bits_test ws len c k =
    cond (invalid ws len) (refused 13)
    (cond (eqb len 0) (refused 10)
    (cond (eqb (length (ones_of ws len)) 0) (refused 11)
    (ones_test ws len c k)))

-- the image stands at the front, and the later words stay
abbrev pub bits_written : List ℕ → ℕ → Bool → List ℕ → Outcome
bits_written ws len c w = leaves (value (length (bits_image ws len c))) (bits_image ws len c ++ drop (length (bits_image ws len c)) w)

unfoldable pub from_bits_of : List ℕ → ℕ → Bool → List ℕ → Outcome
from_bits_of ws len c w = passing (bits_test ws len c (length w)) w (bits_written ws len c w)

-- every question of the first k words that an accepted call leaves is asked of the places of the ones
abbrev pub AsksBits : Type 0
AsksBits =
    (ws : List ℕ) (len : ℕ) (c : Bool) (w : List ℕ) (k : ℕ) (x : List ℕ)
    → len < 2 ^ 64 → from_bits_of ws len c w ≡ leaves (value k) x → (q : Question) → query (take k x) q ≡ ask len (length (ones_of ws len)) c (ones_of ws len) q
