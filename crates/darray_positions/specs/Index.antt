-- The select index of a list of positions as words: document 01, "Odd spots" (src/bit_vectors/darray/inner.rs) and "The image".
-- Assumes nothing.
use Rattle.std.specs.Prelude.{List, [], ◌∷◌, ◌++◌, Bool, cond, ℕ, zero, suc, ◌+◌, ◌-◌, ◌*◌, ◌/◌, ◌^◌, min, leb, ltb, length, get_or}
use Rattle.broadword.specs.Bits.{count}
use Rattle.broadword.specs.Fields.{word}

-- f 0, f 1, .., n of them
unfoldable pub table : (ℕ → ℕ) → ℕ → List ℕ
table f zero = []
table f (suc n) = f zero ∷ table (λ i. f (suc i)) n

module _ (P : List ℕ) where
  -- the position with the number k
  unfoldable pub pos : ℕ → ℕ
  pos k = get_or P k 0

  -- "a block is 1,024 positions": the last may have fewer
  unfoldable pub blocks : ℕ
  blocks = (length P + 1023) / 1024

  -- how many positions the block j has
  unfoldable pub size : ℕ → ℕ
  size j = min 1024 (length P - 1024 * j)

  -- "if last minus first is below 65,536" the block j is not wide
  unfoldable pub wide : ℕ → Bool
  wide j = leb 65536 (pos (1024 * j + (size j - 1)) - pos (1024 * j))

  -- "otherwise all its positions go to the overflow list": how many of the block j do
  unfoldable pub spill : ℕ → ℕ
  spill j = cond (wide j) (size j) 0

  -- how many of the blocks before j do
  unfoldable pub before : ℕ → ℕ
  before j = count spill j

  -- "the block's entry is its first position", or the two's complement of e with "overflow place -e - 1"
  unfoldable pub entry : ℕ → ℕ
  entry j = cond (wide j) (2 ^ 64 - (before j + 1)) (pos (1024 * j))

  -- "every 32nd position has a 16-bit distance": how many
  unfoldable pub lanes : ℕ
  lanes = (length P + 31) / 32

  -- the distance of the position 32 i from the first of its block, or 65,535 in a wide one; "unused lanes zero"
  unfoldable pub lane : ℕ → ℕ
  lane i = cond (ltb i lanes) (cond (wide (i / 32)) 65535 (pos (32 * i) - pos (1024 * (i / 32)))) 0

  -- "four to a word from the low end"
  unfoldable pub lane_word : ℕ → ℕ
  lane_word t = word 16 (λ i. lane (4 * t + i)) 4

  unfoldable pub lane_words : ℕ
  lane_words = (lanes + 3) / 4

  -- the overflow positions of the blocks before j
  unfoldable pub overflow : ℕ → List ℕ
  overflow zero = []
  overflow (suc j) = overflow j ++ table (λ i. pos (1024 * j + i)) (spill j)

  -- "block entries (two's complement), 16-bit lanes four to a word from the low end with unused lanes zero, overflow positions"
  unfoldable pub index_words : List ℕ
  index_words = table entry blocks ++ (table lane_word lane_words ++ overflow blocks)
