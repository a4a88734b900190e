-- The pending positions of a block: which of them are stored, and what a flush writes of them. It is what functions inside the
-- crate are promised by: no public contract rests on it. Assumes nothing.
use Rattle.std.specs.Prelude.{◌≡◌, List, Bool, true, false, cond, ℕ, zero, suc, ◌+◌, ◌-◌, ◌*◌, ◌/◌, ◌%◌, ◌^◌, ◌≤◌, ◌<◌, leb, ltb, length, get_or, set, Some, None, Option}
use Rattle.broadword.specs.Fields.{word}
use Rattle.darray_positions.specs.Scan.{Position, Ahead, Inside, Hits}
use Rattle.darray_positions.specs.declared.scan.Cursor.{Cursor}
use Rattle.darray_positions.specs.declared.scan.Hit.{Hit}
use Rattle.darray.specs.declared.pending.Pending.{Pending}
use Rattle.darray.specs.declared.inner.Sizes.{Sizes}

-- the positions of a block that its words need: all of a wide one, else every 32nd
abbrev pub Due : Bool → ℕ → Type 0
Due true i = Unit {0}
Due false i = i % 32 ≡ 0

-- they and the last were stored
pub record Sampled (f : ℕ → ℕ) (k size : ℕ) (wide : Bool) (a : List ℕ) : Type 0 where
  pub long : length a ≡ 1024
  pub stored : (i : ℕ) → i < size → Due wide i → Position f (k + i) (get_or a i 0)
  pub last : Position f (k + (size - 1)) (get_or a (size - 1) 0)

-- what loading a block from its first position h on needs: its `size` positions from the number k on in m words, and room
pub record Loadable (f : ℕ → ℕ) (m k size : ℕ) (h : Hit) (a : List ℕ) : Type 0 where
  pub long : length a ≡ 1024
  pub some : 0 < size
  pub few : size ≤ 1024
  pub hits : Hits f k h
  pub inside : Inside f m (k + (size - 1))

-- ---- a block of the n pending positions in a

-- every 32nd position lies between the first and the last
abbrev pub LanesRise : List ℕ → ℕ → Type 0
LanesRise a n = (i : ℕ) → 32 * i < n → (get_or a 0 0 ≤ get_or a (32 * i) 0) × (get_or a (32 * i) 0 ≤ get_or a (n - 1) 0)

unfoldable pub block_wide : List ℕ → ℕ → Bool
block_wide a n = leb 65536 (get_or a (n - 1) 0 - get_or a 0 0)

-- of a block with the `size` positions from the number k on, those that its words need were stored, and the cursor has not passed the word of the last
pub record Loaded (f : ℕ → ℕ) (k size : ℕ) (a : List ℕ) (c : Cursor) : Type 0 where
  pub sampled : Sampled f k size (block_wide a size) a
  pub next : Ahead f c (k + (size - 1))

unfoldable pub block_spill : List ℕ → ℕ → ℕ
block_spill a n = cond (block_wide a n) n 0

-- the entry, with o overflow positions before it
unfoldable pub block_entry : List ℕ → ℕ → ℕ → ℕ
block_entry a n o = cond (block_wide a n) (2 ^ 64 - (o + 1)) (get_or a 0 0)

unfoldable pub block_lane : List ℕ → ℕ → ℕ → ℕ
block_lane a n i = cond (ltb (32 * i) n) (cond (block_wide a n) 65535 (get_or a (32 * i) 0 - get_or a 0 0)) 0

unfoldable pub block_lane_word : List ℕ → ℕ → ℕ → ℕ
block_lane_word a n t = word 16 (λ i. block_lane a n (4 * t + i)) 4

-- the words of f 0, f 1, .., n of them, at the place at
unfoldable pub put : List ℕ → ℕ → (ℕ → ℕ) → ℕ → List ℕ
put l at f zero = l
put l at f (suc n) = set (put l at f n) (at + n) (f n)

-- what a flush of the block j leaves: its entry, its lanes from the place lanes_at on, and its overflow positions from the place over_at on
unfoldable pub flushed : List ℕ → ℕ → ℕ → ℕ → ℕ → ℕ → List ℕ → List ℕ
flushed a n j lanes_at o over_at l = put (put (set l j (block_entry a n o)) lanes_at (block_lane_word a n) ((n + 127) / 128)) over_at (λ i. get_or a i 0) (block_spill a n)

-- a block, and words with room for it
pub record Flushable (a : List ℕ) (n j lanes_at o over_at m : ℕ) : Type 0 where
  pub some : 0 < n
  pub few : n ≤ 1024
  pub rising : LanesRise a n
  pub entry_room : j < m
  pub lanes_room : lanes_at + (n + 127) / 128 ≤ m
  pub over_room : over_at + block_spill a n ≤ m

-- where the distances of the block j stand in the index, and where overflow positions with o before them do
abbrev pub lanes_at : Sizes → ℕ → ℕ
lanes_at s j = s.entries + 8 * j

abbrev pub over_at : Sizes → ℕ → ℕ
over_at s o = s.entries + (s.lanes + 3) / 4 + o

-- the pending positions, none of them pending any more
abbrev pub emptied : Pending → Pending
emptied p = record { positions = p.positions; count = 0 }

-- r says whether A holds
pub record Decides (r : Bool) (A : Type 0) : Type 0 where
  pub yes : r ≡ true → A
  pub no : r ≡ false → A → ⊥

-- the words of l at the place at are f 0, f 1, .., n of them
abbrev pub Reads : List ℕ → ℕ → (ℕ → ℕ) → ℕ → Type 0
Reads l at f n = (i : ℕ) → i < n → get_or l (at + i) 0 ≡ f i

-- the words of l are those that a flush of the block j writes
pub record Matches (a : List ℕ) (n j lanes_at o over_at : ℕ) (l : List ℕ) : Type 0 where
  pub entry : get_or l j 0 ≡ block_entry a n o
  pub lane_words : Reads l lanes_at (block_lane_word a n) ((n + 127) / 128)
  pub spilled : Reads l over_at (λ i. get_or a i 0) (block_spill a n)

-- a block of the n positions in a, with o overflow positions before it, and m words that are compared with the index of the sizes s
pub record Comparing (a : List ℕ) (n : ℕ) (s : Sizes) (j o m : ℕ) : Type 0 where
  pub some : 0 < n
  pub few : n ≤ 1024
  pub rising : LanesRise a n
  pub entry_room : j < s.entries
  pub lanes_room : 8 * j + (n + 127) / 128 ≤ (s.lanes + 3) / 4
  pub lanes_fit : s.lanes + 3 < 2 ^ 64
  pub spilled : o ≤ s.overflow
  pub long : s.entries + (s.lanes + 3) / 4 + s.overflow ≡ m

-- its words are those of l, which has room for what it spills
pub record SameWords (a : List ℕ) (n : ℕ) (s : Sizes) (j o : ℕ) (l : List ℕ) : Type 0 where
  pub room : o + block_spill a n ≤ s.overflow
  pub matches : Matches a n j (lanes_at s j) o (over_at s o) l

abbrev pub Compares : List ℕ → ℕ → Sizes → ℕ → ℕ → List ℕ → Option ℕ → Type 0
Compares a n s j o l (Some k) = (k ≡ block_spill a n) × SameWords a n s j o l
Compares a n s j o l None = SameWords a n s j o l → ⊥
