-- Words as bytes, little end first. Assumes nothing.
use Rattle.std.specs.Prelude.{◌≡◌, List, [], ◌∷◌, ◌++◌, ℕ, zero, suc, ◌+◌, ◌*◌, ◌/◌, ◌%◌, ◌^◌, ◌<◌, min, length, take, drop, get_or}

-- the last k digits of w to the base 256, the lowest first
unfoldable pub digits : ℕ → ℕ → List ℕ
digits zero w = []
digits (suc k) w = w % 256 ∷ digits k (w / 256)

-- each word as its eight digits
unfoldable pub bytes_of : List ℕ → List ℕ
bytes_of [] = []
bytes_of (w ∷ ws) = digits 8 w ++ bytes_of ws

-- the number that digits spell, the lowest first
unfoldable pub number : List ℕ → ℕ
number [] = 0
number (b ∷ bs) = b + 256 * number bs

-- the first n words that the bytes spell
unfoldable pub words_of : ℕ → List ℕ → List ℕ
words_of zero bs = []
words_of (suc n) bs = number (take 8 bs) ∷ words_of n (drop 8 bs)

-- how many words there are, and every element of what was written to
pub record Filled : Type 0 where
  pub count : ℕ
  pub elements : List ℕ

abbrev pub filled : ℕ → List ℕ → Filled
filled n l = record { count = n; elements = l }

-- as many words as both have room for
abbrev pub room : List ℕ → List ℕ → ℕ
room ws bs = min (length ws) (length bs / 8)

-- what packing leaves: the bytes of the words in front
unfoldable pub pack_of : List ℕ → List ℕ → Filled
pack_of ws bs = filled (room ws bs) (bytes_of (take (room ws bs) ws) ++ drop (8 * room ws bs) bs)

-- what unpacking leaves: the words of the bytes in front
unfoldable pub unpack_of : List ℕ → List ℕ → Filled
unpack_of bs ws = filled (room ws bs) (words_of (room ws bs) bs ++ drop (room ws bs) ws)

-- the bytes of words spell the words again
unfoldable pub PackedBack : Type 0
PackedBack = (ws : List ℕ) → ((i : ℕ) → get_or ws i 0 < 2 ^ 64) → words_of (length ws) (bytes_of ws) ≡ ws
