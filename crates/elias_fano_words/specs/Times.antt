-- The times that high and low words hold, and whether some words hold nothing but times in order. u is the universe, n the declared
-- count, m how many times there are, T the list of times. Assumes nothing.
use Rattle.std.specs.Prelude.{List, [], ◌∷◌, ◌++◌, Bool, true, not, ◌&&◌, ◌||◌, ℕ, ◌+◌, ◌-◌, ◌*◌, ◌^◌, leb, ltb, length, take, drop, unwrap_or}
use Rattle.broadword.specs.Fields.{word}
use Rattle.broadword.specs.Places.{select}
use Rattle.bit_words.specs.Vector.{bit_at, words_for, number_words}
use Rattle.darray_positions.specs.Index.{table}
use Rattle.darray.specs.Queries.{same}
use Rattle.elias_fano_words.specs.Sizes.{low_len, high_len}
use Rattle.elias_fano_words.specs.Image.{high_words, low_number}

-- no time is below x or below the one before it, and all are below u
unfoldable pub rising : ℕ → ℕ → List ℕ → Bool
rising u x [] = true
rising u x (t ∷ T) = leb x t && (ltb t u && rising u t T)

-- each time is below the next: none is repeated (document 02)
unfoldable pub unrepeated : List ℕ → Bool
unrepeated [] = true
unrepeated (t ∷ []) = true
unrepeated (t ∷ s ∷ T) = ltb t s && unrepeated (s ∷ T)

-- the same where it is asked for
abbrev pub unrepeated_if : Bool → List ℕ → Bool
unrepeated_if strict T = not strict || unrepeated T

-- the last time, x where there is none
abbrev pub last_from : ℕ → List ℕ → ℕ
last_from x [] = x
last_from x (t ∷ T) = last_from t T

-- 0 while there is none
abbrev pub last_of : List ℕ → ℕ
last_of T = last_from 0 T

module _ (u n : ℕ) where
  -- the high words, and k low words
  unfoldable pub bit_words : ℕ → List ℕ → List ℕ
  bit_words k T = high_words u n T ++ number_words k (low_number (low_len u n) T)

  -- the time with the number k: the place of the k-th high one less k, above the low bits with that number
  unfoldable pub time_in : List ℕ → List ℕ → ℕ → ℕ
  time_in high low k =
      (unwrap_or (select (bit_at high) (high_len u n) k) 0 - k) * 2 ^ low_len u n + word 1 (λ i. bit_at low (k * low_len u n + i)) (low_len u n)

  -- m times of the high words and the low words after them
  unfoldable pub times_in : ℕ → List ℕ → List ℕ
  times_in m ws = table (time_in (take (words_for (high_len u n)) ws) (drop (words_for (high_len u n)) ws)) m

  -- the words are bit for bit those of m times in order: "unused bits zero, hold [nothing] but m non-decreasing times below u"
  unfoldable pub holds : ℕ → List ℕ → Bool
  holds m ws = rising u 0 (times_in m ws) && same ws (bit_words (length ws - words_for (high_len u n)) (times_in m ws))

  -- and none of them is repeated, where that is asked for
  abbrev pub holds_if : Bool → ℕ → List ℕ → Bool
  holds_if strict m ws = unrepeated_if strict (times_in m ws) && holds m ws
