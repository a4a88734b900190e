-- What the functions inside the crate find of an image, as facts, and what a query of an opened image demands. i is an image. Assumes nothing.
use Rattle.std.specs.Prelude.{◌≡◌, List, [], true, false, cond, ℕ, ◌+◌, ◌-◌, ◌*◌, ◌≤◌, ◌<◌, length, get_or, take, drop, Some, None, Option}
use Rattle.broadword.specs.Places.{select}
use Rattle.bit_words.specs.Vector.{words_for, bit_over}
use Rattle.darray_positions.specs.Index.{index_words}
use Rattle.darray_positions.specs.Positions.{positions}
use Rattle.elias_fano_words.specs.Sizes.{low_len, high_len, image_len}
use Rattle.elias_fano.specs.declared.image.Parts.{Parts}
use Rattle.elias_fano.specs.Accept.{universe, declared, pushed, ranked, accepted, ones_at, zeros_at, parts_of}

-- the high length
abbrev pub high_of : List ℕ → ℕ
high_of i = high_len (universe i) (declared i)

-- where the index over the ones and that over the zeros begin
abbrev pub ones_in : List ℕ → ℕ
ones_in i = ones_at (universe i) (declared i) (pushed i)

abbrev pub zeros_in : List ℕ → ℕ
zeros_in i = zeros_at (universe i) (declared i) (pushed i) (get_or i 4 0)

-- the length that the header gives
abbrev pub end_in : List ℕ → ℕ
end_in i = image_len (universe i) (declared i) (pushed i) (ranked i) (get_or i 4 0) (get_or i 5 0)

-- a declared count, a number of times and a choice in their limits
pub record Counts (n m c : ℕ) : Type 0 where
  pub some : 0 < n
  pub most : n ≤ 16777216
  pub few : m ≤ n
  pub choice : c ≤ 1

-- the numbers of a header in their limits: no overflow list is longer than the image
pub record Limits (i : List ℕ) : Type 0 where
  pub six : 6 ≤ length i
  pub counts : Counts (declared i) (pushed i) (get_or i 3 0)
  pub ones : get_or i 4 0 ≤ length i
  pub zeros : get_or i 5 0 ≤ length i

-- the image has the length that its header gives
pub record Complete (i : List ℕ) : Type 0 where
  pub none : ranked i ≡ false → get_or i 5 0 ≡ 0
  pub long : length i ≡ end_in i

-- a header in its limits, and the length that it gives
pub record Headed (i : List ℕ) : Type 0 where
  pub six : 6 ≤ length i
  pub counts : Counts (declared i) (pushed i) (get_or i 3 0)
  pub complete : Complete i

abbrev pub Heads : List ℕ → Option Parts → Type 0
Heads i (Some p) = (p ≡ parts_of i) × Headed i
Heads i None = accepted i ≡ true → ⊥

-- the high words
abbrev pub high_in : List ℕ → List ℕ
high_in i = take (words_for (high_of i)) (drop 6 i)

-- the high and the low words
abbrev pub bits_in : List ℕ → List ℕ
bits_in i = take (words_for (high_of i) + words_for (pushed i * low_len (universe i) (declared i))) (drop 6 i)

-- the indexes are those of the high bits
pub record Indexes (i : List ℕ) : Type 0 where
  pub ones : take (zeros_in i - ones_in i) (drop (ones_in i) i) ≡ index_words (positions true (high_in i) (high_of i))
  pub zeros : drop (zeros_in i) i ≡ cond (ranked i) (index_words (positions false (high_in i) (high_of i))) []

-- the high words, by the parts
abbrev pub high_part : List ℕ → Parts → List ℕ
high_part i p = take (p.low_at - 6) (drop 6 i)

-- an accepted image with its parts
pub record Open (i : List ℕ) (p : Parts) : Type 0 where
  pub ok : accepted i ≡ true
  pub parts : p ≡ parts_of i

-- the one of the time with the number k stands at the place x of the high bits
pub record OneAt (i : List ℕ) (p : Parts) (k x : ℕ) : Type 0 where
  pub ok : accepted i ≡ true
  pub parts : p ≡ parts_of i
  pub below : k < p.num_pushed
  pub place : select (bit_over true (high_part i p)) p.high_len k ≡ Some x
