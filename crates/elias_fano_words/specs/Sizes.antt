-- The sizes of a record and of its image: document 01, "The image", and document 02 (vii). u is the universe, n the declared count, m how many times
-- there are, c the rank choice. Assumes nothing.
use Rattle.std.specs.Prelude.{Bool, cond, ℕ, ◌+◌, ◌-◌, ◌*◌, ◌/◌, ◌^◌, unwrap_or}
use Rattle.broadword.specs.Bits.{bit}
use Rattle.broadword.specs.Places.{last}
use Rattle.bit_words.specs.Vector.{words_for}
use Rattle.elias_fano_words.specs.declared.sizes.Sizes.{Sizes}

-- l: the place of the highest one of u / n, or 0 if that is 0
unfoldable pub low_len : ℕ → ℕ → ℕ
low_len u n = unwrap_or (last (bit (u / n)) 64) 0

-- the high length H
unfoldable pub high_len : ℕ → ℕ → ℕ
high_len u n = n + 2 + u / 2 ^ low_len u n

-- the word at which the low bits begin: after the header and the high words
abbrev pub low_at : ℕ → ℕ → ℕ
low_at u n = 6 + words_for (high_len u n)

-- how many words a start zeroes
unfoldable pub start_len : ℕ → ℕ → ℕ
start_len u n = low_at u n + words_for (n * low_len u n)

-- all four
abbrev pub sizes_of : ℕ → ℕ → Sizes
sizes_of u n = record { low_len = low_len u n; high_len = high_len u n; low_at = low_at u n; start_len = start_len u n }

-- ---- the image

-- the words of an index over k positions, of which `over` are in the overflow list
abbrev pub index_len : ℕ → ℕ → ℕ
index_len k over = (k + 1023) / 1024 + ((k + 31) / 32 + 3) / 4 + over

-- those of an image, of which so many ones and zeros are in the overflow lists
abbrev pub image_len : ℕ → ℕ → ℕ → Bool → ℕ → ℕ → ℕ
image_len u n m c ones zeros = low_at u n + words_for (m * low_len u n) + index_len m ones + cond c (index_len (high_len u n - m) zeros) 0

-- ---- the limit

-- no index over H bits has more positions in its overflow list
abbrev pub overflow_limit : ℕ → ℕ
overflow_limit H = H / 64

-- no image of these settings has more words: the start's size, an index over n ones, with the rank choice one over H zeros, and in each as many overflow
-- positions as any has
unfoldable pub limit : ℕ → ℕ → Bool → ℕ
limit u n c = start_len u n + index_len n (overflow_limit (high_len u n)) + cond c (index_len (high_len u n) (overflow_limit (high_len u n))) 0
