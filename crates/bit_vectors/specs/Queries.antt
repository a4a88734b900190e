-- What each call on a bit vector answers and leaves, document 01, "Odd spots" and "Refusals". Assumes nothing.
use Rattle.std.specs.Prelude.{List, ◌++◌, Bool, cond, ℕ, ◌+◌, ◌-◌, ◌*◌, ◌/◌, ◌%◌, ◌^◌, min, leb, ltb, length, get_or, set, take, drop}
use Rattle.errors.specs.Answer.{Answer, value, none, done, refused, Outcome, leaves, of_option}
use Rattle.broadword.specs.Bits.{count}
use Rattle.broadword.specs.Fields.{flag, word}
use Rattle.broadword.specs.Places.{last, select}
use Rattle.bit_words.specs.Vector.{bit_at, bit_over, words_for, invalid, number_words, put_bit, appended}

-- ---- the cases of each answer, in document 01's terms

-- a place that may be missing
-- ---- questions

module _ (ws : List ℕ) (len : ℕ) where
  -- 13 comes first
  unfoldable pub if_valid : Answer → Answer
  if_valid a = cond (invalid ws len) (refused 13) a

  unfoldable pub access_of : ℕ → Answer
  access_of pos = if_valid (cond (ltb pos len) (value (bit_at ws pos)) none)

  unfoldable pub get_bits_of : ℕ → ℕ → Answer
  get_bits_of pos width = if_valid (cond (leb width 64) (cond (leb (pos + width) len) (value (word 1 (λ i. bit_at ws (pos + i)) width)) none) none)

  -- the 64 bits from pos on: past the used words they are 0
  unfoldable pub get_word64_of : ℕ → Answer
  get_word64_of pos = if_valid (cond (ltb pos len) (value (word 1 (λ i. bit_at (take (words_for len) ws) (pos + i)) 64)) none)

  unfoldable pub rank1_of : ℕ → Answer
  rank1_of pos = if_valid (cond (leb pos len) (value (count (bit_at ws) pos)) none)

  unfoldable pub num_ones_of : Answer
  num_ones_of = if_valid (value (count (bit_at ws) len))

  -- over the ones (true) or the zeros (false)
  unfoldable pub select_bit_of : Bool → ℕ → Answer
  select_bit_of b k = if_valid (of_option (select (bit_over b ws) len k))

  -- the last one at or before pos; from the length on the last one of all. Document 02 (v)
  unfoldable pub predecessor1_of : ℕ → Answer
  predecessor1_of pos = if_valid (of_option (last (bit_at ws) (min (pos + 1) len)))

  -- ---- calls that alter words

  unfoldable pub set_bit_of : ℕ → Bool → Outcome
  set_bit_of pos b =
      cond (invalid ws len) (leaves (refused 13) ws)
      (cond (ltb pos len) (leaves done (set ws (pos / 64) (put_bit (get_or ws (pos / 64) 0) (pos % 64) (flag b)))) (leaves (refused 16) ws))

  -- the lowest bits, as many as width says, are pushed
  unfoldable pub push_bits_of : ℕ → ℕ → Outcome
  push_bits_of bits width =
      cond (invalid ws len) (leaves (refused 13) ws)
      (cond (ltb 64 width) (leaves (refused 14) ws)
      (cond (leb (2 ^ 64) (len + width)) (leaves (refused 15) ws)
      (cond (ltb (length ws) (words_for (len + width))) (leaves (refused 15) ws)
      (leaves (value (len + width)) (appended ws len (bits % 2 ^ width) width)))))

-- the used words are written whole, as the words of 2 ^ len - 1 or of 0
unfoldable pub from_bit_of : Bool → ℕ → List ℕ → Outcome
from_bit_of b len ws =
    cond (ltb (length ws) (words_for len)) (leaves (refused 13) ws)
    (leaves done (number_words (words_for len) (flag b * (2 ^ len - 1)) ++ drop (words_for len) ws))
