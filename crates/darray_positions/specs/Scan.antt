-- What the functions that scan the words demand and hand back, inside the crate: no public contract rests on it. A run f of bits is
-- that of the ones or the zeros of a bit vector's words. Assumes nothing.
use Rattle.std.specs.Prelude.{◌≡◌, List, Bool, ℕ, ◌+◌, ◌-◌, ◌*◌, ◌/◌, ◌^◌, ◌≤◌, ◌<◌, min, get_or}
use Rattle.bit_words.specs.Vector.{bit_over, word_over}
use Rattle.broadword.specs.Bits.{count, ones}
use Rattle.darray_positions.specs.declared.scan.Cursor.{Cursor}
use Rattle.darray_positions.specs.declared.scan.Hit.{Hit}
use Rattle.darray_positions.specs.declared.scan.Span.{Span}
use Rattle.darray_positions.specs.declared.scan.Full.{Full}
use Rattle.darray_positions.specs.Positions.{positions}
use Rattle.darray_positions.specs.Index.{before}

-- i is the position of f with the number k
pub record Position (f : ℕ → ℕ) (k i : ℕ) : Type 0 where
  pub one : f i ≡ 1
  pub before : count f i ≡ k

-- the cursor's count is right, and the position with the number k is not before its word
pub record Ahead (f : ℕ → ℕ) (c : Cursor) (k : ℕ) : Type 0 where
  pub counted : c.before ≡ count f (c.word * 64)
  pub to_come : c.before ≤ k

-- some bits of m words, 2^63 at most, have a position with the number k
pub record Inside (f : ℕ → ℕ) (m k : ℕ) : Type 0 where
  pub bits : ℕ
  pub room : bits ≤ m * 64
  pub few : bits ≤ 2 ^ 63
  pub there : k < count f bits

-- a cursor that may go as far as the word `end`, of m words
pub record Ranging (c : Cursor) (end m : ℕ) : Type 0 where
  pub upto : c.word ≤ end
  pub room : end ≤ m

-- from one cursor on, the word of the position with the number k is reached, or the word `end` before it
pub record Reaches (b : Bool) (ws : List ℕ) (from : Cursor) (k end : ℕ) (c : Cursor) : Type 0 where
  pub ahead : Ahead (bit_over b ws) c k
  pub on : from.word ≤ c.word
  pub upto : c.word ≤ end
  pub here : c.word < end → k < c.before + ones (word_over b (get_or ws c.word 0)) 64

-- the position with the number k, and a cursor that has not passed its word
pub record Hits (f : ℕ → ℕ) (k : ℕ) (h : Hit) : Type 0 where
  pub position : Position f k h.at
  pub ahead : Ahead f h.cursor k

-- the number of the last position of the block j of n positions
abbrev pub last_in_block : ℕ → ℕ → ℕ
last_in_block n j = 1024 * j + (min 1024 (n - 1024 * j) - 1)

-- the first and the last position of the block j, and a cursor that has not passed the word of the last
pub record Spans (f : ℕ → ℕ) (n j : ℕ) (s : Span) : Type 0 where
  pub first : Position f (1024 * j) s.first
  pub last : Position f (last_in_block n j) s.last
  pub next : Ahead f s.next (last_in_block n j)

-- some full blocks of the len bits, what they spill, a cursor that has not passed the next, and the count of the whole words
pub record FullBlocks (b : Bool) (ws : List ℕ) (len : ℕ) (r : Full) : Type 0 where
  pub spilled : r.overflow ≡ before (positions b ws len) r.blocks
  pub ahead : Ahead (bit_over b ws) r.from (1024 * r.blocks)
  pub counted : r.positions ≡ count (bit_over b ws) (len / 64 * 64)
  pub there : 1024 * r.blocks ≤ r.positions
