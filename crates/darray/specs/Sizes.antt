-- The sizes of an index, and what writing it and comparing words with it demand: no public contract rests on it. Assumes nothing.
use Rattle.std.specs.Prelude.{◌≡◌, List, Bool, ℕ, ◌+◌, ◌/◌, ◌^◌, ◌≤◌, ◌<◌, length}
use Rattle.broadword.specs.Bits.{count}
use Rattle.bit_words.specs.Vector.{words_for, bit_over}
use Rattle.darray_positions.specs.Index.{blocks, lanes, before, index_words}
use Rattle.darray.specs.declared.inner.Sizes.{Sizes}

-- the sizes of an index over n positions, o of which go to the overflow
abbrev pub sizes_by : ℕ → ℕ → Sizes
sizes_by n o = record { positions = n; entries = (n + 1023) / 1024; lanes = (n + 31) / 32; overflow = o }

-- the sizes of the index of P
pub record Sized (P : List ℕ) (s : Sizes) : Type 0 where
  pub positions : s.positions ≡ length P
  pub entries : s.entries ≡ blocks P
  pub lanes : s.lanes ≡ lanes P
  pub overflow : s.overflow ≡ before P (blocks P)

-- the numbers of positions, entries and lanes are right, and there is room: for the len bits in m words, and for the index in k words. How many positions
-- go to the overflow need not be known before
pub record Writable (P : List ℕ) (len m : ℕ) (s : Sizes) (k : ℕ) : Type 0 where
  pub positions : s.positions ≡ length P
  pub entries : s.entries ≡ blocks P
  pub lanes : s.lanes ≡ lanes P
  pub words : words_for len ≤ m
  pub few : len < 2 ^ 63
  pub room : length (index_words P) ≤ k

-- the sizes of an index over the len bits, and of words that it is compared with: as many overflow positions as these have room for
pub record Comparable (b : Bool) (ws : List ℕ) (len : ℕ) (s : Sizes) (k : ℕ) : Type 0 where
  pub words : words_for len ≤ length ws
  pub few : len < 2 ^ 63
  pub positions : s.positions ≡ count (bit_over b ws) len
  pub entries : s.entries ≡ (s.positions + 1023) / 1024
  pub lanes : s.lanes ≡ (s.positions + 31) / 32
  pub long : s.entries + (s.lanes + 3) / 4 + s.overflow ≡ k
