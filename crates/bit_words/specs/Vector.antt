-- A bit vector is lent words and a length: its bits are those of the words at the places below the length. Assumes nothing.
use Rattle.std.specs.Prelude.{List, [], ◌∷◌, ◌++◌, Bool, true, false, not, cond, ℕ, zero, suc, ◌+◌, ◌-◌, ◌*◌, ◌/◌, ◌%◌, ◌^◌, eqb, ltb, length, get_or, drop}
use Rattle.broadword.specs.Bits.{bit}
use Rattle.broadword.specs.Fields.{word}

-- the bit at the place i of the words
unfoldable pub bit_at : List ℕ → ℕ → ℕ
bit_at ws i = bit (get_or ws (i / 64) 0) (i % 64)

-- the run of bits in which the ones (true) or the zeros (false) of the words are 1
unfoldable pub bit_over : Bool → List ℕ → ℕ → ℕ
bit_over true ws i = bit_at ws i
bit_over false ws i = 1 - bit_at ws i

-- the used words of a vector of len bits
abbrev pub words_for : ℕ → ℕ
words_for len = (len + 63) / 64

-- the bits past the length in the last used word, as a number
unfoldable pub padding : List ℕ → ℕ → ℕ
padding ws len = cond (eqb (len % 64) 0) 0 (get_or ws (len / 64) 0 / 2 ^ (len % 64))

-- refusal 13: the length is over 64 × words, or padding is set
unfoldable pub invalid : List ℕ → ℕ → Bool
invalid ws len = cond (ltb (length ws) (words_for len)) true (not (eqb (padding ws len) 0))

-- the first k words of a number
unfoldable pub number_words : ℕ → ℕ → List ℕ
number_words zero v = []
number_words (suc k) v = (v % 2 ^ 64) ∷ number_words k (v / 2 ^ 64)

-- the word whose ones are the ones (true) or the zeros (false) of w
abbrev pub word_over : Bool → ℕ → ℕ
word_over true w = w
word_over false w = 2 ^ 64 - 1 - w

-- the word w with b at the place i
unfoldable pub put_bit : ℕ → ℕ → ℕ → ℕ
put_bit w i b = w - bit w i * 2 ^ i + b * 2 ^ i

-- the words after the width bits x are pushed: the used words are one number, to which x is added above the length
unfoldable pub appended : List ℕ → ℕ → ℕ → ℕ → List ℕ
appended ws len x width =
    number_words (words_for (len + width)) (word 64 (λ i. get_or ws i 0) (words_for len) + x * 2 ^ len) ++ drop (words_for (len + width)) ws

-- the words as one number, the first lowest
unfoldable pub number : List ℕ → ℕ
number ws = word 64 (λ i. get_or ws i 0) (length ws)

-- the words after the width bits from the place p on become x, which has no more bits: no other bit changes
unfoldable pub overwrite : List ℕ → ℕ → ℕ → ℕ → List ℕ
overwrite ws p width x = number_words (length ws) (number ws / 2 ^ (p + width) * 2 ^ (p + width) + x * 2 ^ p + number ws % 2 ^ p)
