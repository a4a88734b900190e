-- What the functions that finish a record demand and find, inside the crate: no public contract rests on it. b is the builder, c the rank
-- choice, w the words lent. Assumes nothing.
use Rattle.std.specs.Prelude.{◌≡◌, List, [], ◌++◌, Bool, true, false, cond, ℕ, ◌*◌, ◌^◌, ◌≤◌, ◌<◌, length, drop, replicate}
use Rattle.bit_words.specs.Vector.{words_for, invalid}
use Rattle.darray_positions.specs.Index.{index_words}
use Rattle.darray_positions.specs.Positions.{positions}
use Rattle.elias_fano_words.specs.Sizes.{low_len, start_len, sizes_of}
use Rattle.elias_fano_words.specs.Times.{bit_words}
use Rattle.elias_fano_words.specs.declared.sizes.Sizes.{Sizes}
use Rattle.elias_fano.specs.declared.builder.Builder.{Builder}
use Rattle.elias_fano.specs.Steps.{sound, intact, image_of}

-- bits without padding, that an index is measured of
abbrev pub Measurable : List ℕ → ℕ → Type 0
Measurable ws len = (invalid ws len ≡ false) × (len < 2 ^ 32)

-- the positions of the second index: those of the zeros, or none
abbrev pub zeros_of : Bool → List ℕ → ℕ → List ℕ
zeros_of c ws len = cond c (positions false ws len) []

-- its words
abbrev pub zeros_words : Bool → List ℕ → ℕ → List ℕ
zeros_words c ws len = index_words (zeros_of c ws len)

-- the words lent hold the builder's times, and nothing else
pub record Holding (b : Builder) (w : List ℕ) : Type 0 where
  pub is_sound : sound b ≡ true
  pub long : start_len b.universe b.num_vals ≤ length w
  pub is_intact : intact b w ≡ true

-- s are the sizes of its record, and its image has room in the words
pub record Finishable (b : Builder) (c : Bool) (s : Sizes) (w : List ℕ) : Type 0 where
  pub holding : Holding b w
  pub sizes : s ≡ sizes_of b.universe b.num_vals
  pub room : length (image_of b c w) ≤ length w

-- the words that a start and a reading of each time of T leave
unfoldable pub filed_in : ℕ → ℕ → List ℕ → List ℕ → List ℕ
filed_in u n T w = replicate 6 0 ++ (bit_words u n (words_for (n * low_len u n)) T ++ drop (start_len u n) w)
