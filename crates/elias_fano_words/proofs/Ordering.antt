-- What it takes for high and low words to hold nothing but times in order, as facts about their bits. Assumes nothing.
use mathlib.Core.Path.{◌≡◌}
use mathlib.Core.List.{List}
use mathlib.Core.Bool.{Bool}
use Prim.Native.Nat.{ℕ, ◌-◌, ◌*◌, ◌<◌}
use Rattle.broadword.specs.Bits.{count}
use Rattle.bit_words.specs.Vector.{bit_at}
use Rattle.elias_fano_words.specs.Checks.{InOrder, Clear}
use Rattle.elias_fano_words.specs.Sizes.{low_len, high_len}
use Rattle.elias_fano_words.specs.Times.{time_in}

-- m times in order, with `strict` none twice, and nothing else: high are the high words, low the low ones
pub record Ordered (strict : Bool) (u n m : ℕ) (high low : List ℕ) : Type 0 where
  pub high_clear : Clear high (high_len u n)
  pub ones : count (bit_at high) (high_len u n) ≡ m
  pub low_clear : Clear low (m * low_len u n)
  pub order : InOrder strict (low_len u n) high low
  pub below : 0 < m → time_in u n high low (m - 1) < u
