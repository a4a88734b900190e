-- What the inner functions of this crate demand and find, as facts. Assumes nothing.
use Rattle.std.specs.Prelude.{◌≡◌, List, ℕ, suc, ◌+◌, ◌*◌, ◌/◌, ◌%◌, ◌^◌, ◌≤◌, ◌<◌, length, get_or, Some, None, Option}
use Rattle.broadword.specs.Bits.{count}
use Rattle.bit_words.specs.Vector.{words_for}

-- from the word `first` on, k ones of f stand before the place that has `left` before it in the word `at`; `at` is `used` where there are fewer
pub record Skipped (f : ℕ → ℕ) (first used k at left : ℕ) : Type 0 where
  pub from : first ≤ at
  pub upto : at ≤ used
  pub before : count f (at * 64) + left ≡ count f (first * 64) + k
  pub here : at < used → count f (at * 64) + left < count f ((at + 1) * 64)

-- the words from n on, below the word `end`, are 0, and the one before them is not
pub record Ending (ws : List ℕ) (end n : ℕ) : Type 0 where
  pub upto : n ≤ end
  pub zeros : (i : ℕ) → n ≤ i → i < end → get_or ws i 0 ≡ 0
  pub some : (i : ℕ) → n ≡ suc i → get_or ws i 0 ≡ 0 → ⊥

-- some bits, fewer than 2 ^ width, fit above a length whose last word has nothing above it
pub record Appendable (ws : List ℕ) (len x width : ℕ) : Type 0 where
  pub some : 1 ≤ width
  pub few : width ≤ 64
  pub small : x < 2 ^ width
  pub room : words_for (len + width) ≤ length ws
  pub clear : (len % 64 ≡ 0 → ⊥) → get_or ws (len / 64) 0 / 2 ^ (len % 64) ≡ 0

-- some bits, fewer than 2 ^ width, fit in the words from a place on
pub record Overwritable (ws : List ℕ) (pos x width : ℕ) : Type 0 where
  pub few : width ≤ 64
  pub small : x < 2 ^ width
  pub room : pos + width ≤ 64 * length ws

-- a place in a word
abbrev pub Within : Option ℕ → Type 0
Within f = (t : ℕ) → f ≡ Some t → t < 64

-- as a place in the words, in the word i
abbrev pub place_in : ℕ → Option ℕ → Option ℕ
place_in i (Some t) = Some (i * 64 + t)
place_in i None = None

-- the words that a search from a place on reads
pub record Findable (ws : List ℕ) (used from : ℕ) : Type 0 where
  pub start : from / 64 < used
  pub room : used ≤ length ws
  pub few : used ≤ 2 ^ 58
