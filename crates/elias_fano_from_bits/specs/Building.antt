-- What the functions that write the record of a bit vector demand and find, inside the crate: no public contract rests on it. ws are the words of the bits,
-- len is their length. Assumes nothing.
use Rattle.errors.specs.declared.Refusal.{Refusal}
use Rattle.std.specs.Prelude.{◌≡◌, List, ◌++◌, Bool, true, false, ℕ, suc, ◌+◌, ◌*◌, ◌^◌, ◌≤◌, ◌<◌, length, get_or, drop, replicate, Ok, Err, Result}
use Rattle.errors.specs.Answer.{refused}
use Rattle.errors.specs.Refusal.{number_of}
use Rattle.broadword.specs.Bits.{count}
use Rattle.bit_words.specs.Vector.{bit_over, invalid}
use Rattle.bit_vectors.specs.Walk.{Walking}
use Rattle.bit_vectors.specs.declared.unary.Unary.{Unary}
use Rattle.darray_positions.specs.Index.{pos}
use Rattle.elias_fano_words.specs.Image.{high_positions}
use Rattle.elias_fano_words.specs.Sizes.{low_len, start_len, sizes_of}
use Rattle.elias_fano_words.specs.declared.sizes.Sizes.{Sizes}
use Rattle.elias_fano.specs.Finishing.{filed_in}
use Rattle.elias_fano_from_bits.specs.FromBits.{ones_of, bits_image, ones_test}
use Rattle.elias_fano_from_bits.specs.declared.measure.Mark.{Mark}
use Rattle.elias_fano_from_bits.specs.declared.measure.HighPlace.{HighPlace}
use Rattle.elias_fano_from_bits.specs.declared.build.Job.{Job}
use Rattle.elias_fano_from_bits.specs.declared.build.One.{One}

-- bits with as many ones as a record takes
pub record Countable (ws : List ℕ) (len : ℕ) : Type 0 where
  pub valid : invalid ws len ≡ false
  pub small : len < 2 ^ 64
  pub some : 0 < length (ones_of ws len)
  pub most : length (ones_of ws len) ≤ 16777216

-- bits with n ones, and one at least
pub record Counted (ws : List ℕ) (len n : ℕ) : Type 0 where
  pub valid : invalid ws len ≡ false
  pub number : n ≡ length (ones_of ws len)
  pub some : 0 < n

-- how many low bits of a place stand apart
abbrev pub low_of : List ℕ → ℕ → ℕ
low_of ws len = low_len len (length (ones_of ws len))

-- the positions of the high bits of the record: of its ones (true) or zeros (false)
abbrev pub positions_of : List ℕ → ℕ → Bool → List ℕ
positions_of ws len b = high_positions len (length (ones_of ws len)) b (ones_of ws len)

-- ---- positions of the high bits, found in the source

-- as many ones stand before the place, which is not past the length
pub record Marked (ws : List ℕ) (len : ℕ) (m : Mark) : Type 0 where
  pub counted : m.ones ≡ count (bit_over true ws) m.place
  pub upto : m.place ≤ len

-- the mark has not passed what decides about the position with the number k
abbrev pub Upto : Bool → ℕ → Mark → ℕ → Type 0
Upto true l m k = m.ones ≤ k
Upto false l m k = m.place ≤ (k + 1) * 2 ^ l

-- a mark to go on from to the position with the number k
pub record Seekable (ws : List ℕ) (len : ℕ) (b : Bool) (l k : ℕ) (m : Mark) : Type 0 where
  pub countable : Countable ws len
  pub low : l ≡ low_of ws len
  pub there : k < length (positions_of ws len b)
  pub marked : Marked ws len m
  pub upto : Upto b l m k

-- the position with the number k, and a mark to go on from
pub record Seen (ws : List ℕ) (len : ℕ) (b : Bool) (l k : ℕ) (r : HighPlace) : Type 0 where
  pub at : r.at ≡ pos (positions_of ws len b) k
  pub marked : Marked ws len r.mark
  pub upto : Upto b l r.mark k

-- the sizes of the record of n ones
pub record Sizable (ws : List ℕ) (len n : ℕ) (s : Sizes) : Type 0 where
  pub countable : Countable ws len
  pub number : n ≡ length (ones_of ws len)
  pub sizes : s ≡ sizes_of len (length (ones_of ws len))

-- ---- filing

-- the walk has taken the first i ones
pub record OnesTaken (ws : List ℕ) (len i : ℕ) (w : Unary) : Type 0 where
  pub over : Walking ws len w
  pub before : count (bit_over true ws) w.from ≡ i

-- the one with the number i, and the walk after it
pub record NextTaken (ws : List ℕ) (len i : ℕ) (r : One) : Type 0 where
  pub place : r.place ≡ get_or (ones_of ws len) i 0
  pub rest : OnesTaken ws len (suc i) r.rest

-- k words are enough for the start of the record
pub record Writing (ws : List ℕ) (len n : ℕ) (s : Sizes) (k : ℕ) : Type 0 where
  pub sizable : Sizable ws len n s
  pub room : start_len len (length (ones_of ws len)) ≤ k

-- the words that a start of these settings zeroes are 0
abbrev pub Zeroed : List ℕ → ℕ → List ℕ → Type 0
Zeroed ws len w = w ≡ replicate (start_len len (length (ones_of ws len))) 0 ++ drop (start_len len (length (ones_of ws len))) w

-- the words after a start, and a reading of each place
abbrev pub filed_ones : List ℕ → ℕ → List ℕ → List ℕ
filed_ones ws len w = filed_in len (length (ones_of ws len)) (ones_of ws len) w

-- ---- the call

-- nothing stands against it, with k words lent
pub record Ready (ws : List ℕ) (len : ℕ) (c : Bool) (k : ℕ) (j : Job) : Type 0 where
  pub sizable : Sizable ws len j.ones j.sizes
  pub room : length (bits_image ws len c) ≤ k

abbrev pub Tests : List ℕ → ℕ → Bool → ℕ → Result Job Refusal → Type 0
Tests ws len c k (Ok j) = Ready ws len c k j
Tests ws len c k (Err e) = ones_test ws len c k ≡ refused (number_of e)
