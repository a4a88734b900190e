-- What the functions inside the crate demand and find: no public contract rests on it. Assumes nothing.
use Rattle.std.specs.Prelude.{◌≡◌, List, Bool, ℕ, suc, ◌+◌, ◌-◌, ◌*◌, ◌^◌, ◌≤◌, ◌<◌, length}
use Rattle.broadword.specs.Bits.{bit, count}
use Rattle.broadword.specs.Fields.{flag, word}
use Rattle.bit_words.specs.Vector.{bit_at, words_for}
use Rattle.elias_fano_words.specs.Sizes.{low_len, high_len}

-- the l low bits with the number k
abbrev pub low_bits : ℕ → List ℕ → ℕ → ℕ
low_bits l low k = word 1 (λ i. bit_at low (k * l + i)) l

-- the low bits with the number k do not exceed the next, and with `strict` are below them
abbrev pub Rises : Bool → ℕ → List ℕ → ℕ → Type 0
Rises strict l low k = low_bits l low k + flag strict ≤ low_bits l low (suc k)

-- so the low bits of neighbouring ones, whose times have the same high bits
abbrev pub InOrder : Bool → ℕ → List ℕ → List ℕ → Type 0
InOrder strict l high low = (i : ℕ) → bit_at high i ≡ 1 → bit_at high (suc i) ≡ 1 → Rises strict l low (count (bit_at high) i)

-- no bit is set from the place p on
abbrev pub Clear : List ℕ → ℕ → Type 0
Clear ws p = (i : ℕ) → p ≤ i → bit_at ws i ≡ 0

-- some words have the low bits of k times
pub record Held (l : ℕ) (low : List ℕ) (k : ℕ) : Type 0 where
  pub number : k < 2 ^ 64
  pub room : k * l ≤ length low * 64
  pub few : k * l < 2 ^ 64

-- what holds of every place at which x is 1
abbrev pub Each : ℕ → (ℕ → Type 0) → Type 0
Each x P = (j : ℕ) → bit x j ≡ 1 → P j

-- the last one stands at p
pub record LastOne (ws : List ℕ) (p : ℕ) : Type 0 where
  pub one : bit_at ws p ≡ 1
  pub after : Clear ws (suc p)

-- the time with the number k, whose one stands at p
abbrev pub time_at : ℕ → List ℕ → ℕ → ℕ → ℕ
time_at l low k p = (p - k) * 2 ^ l + low_bits l low k

-- high words with m ones, and the low bits of as many times
pub record Filled (l : ℕ) (high low : List ℕ) (m : ℕ) : Type 0 where
  pub place : ℕ
  pub last : LastOne high place
  pub before : suc (count (bit_at high) place) ≡ m
  pub narrow : l < 64
  pub held : Held l low m
  pub few : length high * 64 < 2 ^ 64

-- a record's numbers, with its low and its high length, and words for its high bits and for the low bits of m times
pub record Checkable (u n m l len : ℕ) (ws : List ℕ) : Type 0 where
  pub some : 0 < n
  pub few : n ≤ 16777216
  pub upto : m ≤ n
  pub low : l ≡ low_len u n
  pub high : len ≡ high_len u n
  pub room : words_for (high_len u n) + words_for (m * low_len u n) ≤ length ws
