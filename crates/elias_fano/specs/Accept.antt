-- When an image is accepted, what it holds, and what the queries answer. i is an image. Document 01, "The image" and "The book of demand 3".
-- Assumes nothing.
use Rattle.errors.specs.declared.Refusal.{Refusal}
use Rattle.std.specs.Prelude.{List, Bool, false, ◌&&◌, cond, ℕ, ◌+◌, ◌*◌, ◌^◌, eqb, leb, ltb, length, get_or, drop, Ok, Err, Result}
use Rattle.errors.specs.Refusal.{number_of}
use Rattle.bit_words.specs.Vector.{words_for}
use Rattle.darray.specs.Queries.{same}
use Rattle.elias_fano_words.specs.Sizes.{low_len, high_len, low_at, index_len}
use Rattle.elias_fano_words.specs.Image.{image}
use Rattle.elias_fano_words.specs.Times.{rising, unrepeated_if, times_in}
use Rattle.elias_fano.specs.declared.image.Parts.{Parts}

-- the settings and the list of a record: a count from 1 to 16,777,216, no more times than that, in order and below u
unfoldable pub fit : ℕ → ℕ → List ℕ → Bool
fit u n T = ltb u (2 ^ 64) && (leb 1 n && (leb n 16777216 && (leb (length T) n && rising u 0 T)))

-- ---- what an image says of itself

abbrev pub universe : List ℕ → ℕ
universe i = get_or i 0 0

abbrev pub declared : List ℕ → ℕ
declared i = get_or i 1 0

abbrev pub pushed : List ℕ → ℕ
pushed i = get_or i 2 0

abbrev pub ranked : List ℕ → Bool
ranked i = eqb (get_or i 3 0) 1

-- the list that it holds
unfoldable pub times : List ℕ → List ℕ
times i = times_in (universe i) (declared i) (pushed i) (drop 6 i)

-- it is word for word the image of that list
unfoldable pub accepted : List ℕ → Bool
accepted i = fit (universe i) (declared i) (times i) && same i (image (universe i) (declared i) (ranked i) (times i))

-- and repeats no time, where that is asked for
abbrev pub accepted_if : Bool → List ℕ → Bool
accepted_if strict i = unrepeated_if strict (times i) && accepted i

-- ---- where its parts stand

abbrev pub ones_at : ℕ → ℕ → ℕ → ℕ
ones_at u n m = low_at u n + words_for (m * low_len u n)

abbrev pub zeros_at : ℕ → ℕ → ℕ → ℕ → ℕ
zeros_at u n m over = ones_at u n m + index_len m over

unfoldable pub parts_by : ℕ → ℕ → ℕ → Bool → ℕ → Parts
parts_by u n m c over = record {
  universe = u;
  num_vals = n;
  num_pushed = m;
  rank = c;
  low_len = low_len u n;
  high_len = high_len u n;
  low_at = low_at u n;
  ones_at = ones_at u n m;
  zeros_at = zeros_at u n m over;
}

abbrev pub parts_of : List ℕ → Parts
parts_of i = parts_by (universe i) (declared i) (pushed i) (ranked i) (get_or i 4 0)

-- those of no words
abbrev pub no_parts : Parts
no_parts = record { universe = 0; num_vals = 0; num_pushed = 0; rank = false; low_len = 0; high_len = 0; low_at = 0; ones_at = 0; zeros_at = 0 }

-- ---- the cases of each answer, in document 01's terms

-- what an opening finds: the parts of an accepted image, or a refusal by its number
pub data Opening : Type 0 where
  parts : Parts → Opening
  unopened : ℕ → Opening

abbrev pub of_opened : Result Parts Refusal → Opening
of_opened (Ok p) = parts p
of_opened (Err e) = unopened (number_of e)

-- ---- opening; 7 comes first

abbrev pub open_if : Bool → List ℕ → Opening
open_if strict i = cond (accepted_if strict i) (parts (parts_of i)) (unopened 7)

unfoldable pub open_of : List ℕ → Opening
open_of i = open_if false i
