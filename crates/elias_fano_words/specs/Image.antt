-- The image of a record, document 01, "The image". u is the universe, n the declared count, c the rank choice, T the list of times. Assumes nothing.
use Rattle.std.specs.Prelude.{List, [], ◌∷◌, ◌++◌, Bool, true, false, cond, ℕ, suc, ◌+◌, ◌*◌, ◌/◌, ◌%◌, ◌^◌, length, get_or}
use Rattle.broadword.specs.Fields.{flag, word}
use Rattle.bit_words.specs.Vector.{words_for, number_words}
use Rattle.darray_positions.specs.Index.{overflow, blocks, index_words}
use Rattle.darray_positions.specs.Positions.{positions}
use Rattle.elias_fano_words.specs.Sizes.{low_len, high_len}

-- the high bits of times, the first of which has the number k: time t sets the bit t / 2 ^ l + k
unfoldable pub high_from : ℕ → ℕ → List ℕ → ℕ
high_from l k [] = 0
high_from l k (t ∷ ts) = 2 ^ (t / 2 ^ l + k) + high_from l (suc k) ts

-- the low l bits of each time, the first lowest
unfoldable pub low_number : ℕ → List ℕ → ℕ
low_number l T = word l (λ k. get_or T k 0 % 2 ^ l) (length T)

-- the overflow words of an index
abbrev pub spilled : List ℕ → ℕ
spilled P = length (overflow P (blocks P))

module _ (u n : ℕ) where
  unfoldable pub high_words : List ℕ → List ℕ
  high_words T = number_words (words_for (high_len u n)) (high_from (low_len u n) 0 T)

  unfoldable pub low_words : List ℕ → List ℕ
  low_words T = number_words (words_for (length T * low_len u n)) (low_number (low_len u n) T)

  -- the positions of the ones (true) or the zeros (false) of the high bits
  abbrev pub high_positions : Bool → List ℕ → List ℕ
  high_positions b T = positions b (high_words T) (high_len u n)

  unfoldable pub image : Bool → List ℕ → List ℕ
  image c T =
      (u ∷ n ∷ length T ∷ flag c ∷ spilled (high_positions true T) ∷ cond c (spilled (high_positions false T)) 0 ∷ [])
      ++ (high_words T ++ (low_words T ++ (index_words (high_positions true T) ++ cond c (index_words (high_positions false T)) [])))
