-- The index written block by block: the invariant of a write, how it begins, goes on and ends. Assumes nothing.
use mathlib.Core.Path.{◌≡◌, refl, ap, ◌∙◌}
use mathlib.Core.List.{List, ◌++◌}
use mathlib.Core.Bool.{Bool}
use Prim.Native.Nat.{ℕ, ◌+◌, ◌-◌, ◌*◌, ◌^◌, ◌<◌, min}
use native.Mathlib.Omega.{arith}
use lib.ListN.{length, drop}
use Rattle.broadword.specs.Bits.{count}
use Rattle.bit_words.specs.Vector.{bit_over}
use Rattle.darray_positions.specs.Positions.{positions}
use Rattle.darray_positions.specs.Index.{blocks, lanes, before, index_words}
use Rattle.darray_positions.specs.Scan.{Ahead, Inside, last_in_block}
use Rattle.darray.specs.Sizes.{Writable}
use Rattle.darray.specs.Pending.{Loaded, block_spill, flushed, Flushable, lanes_at, over_at}
use Rattle.darray_positions.specs.declared.scan.Cursor.{Cursor}
use Rattle.darray.specs.declared.inner.Sizes.{Sizes}
use Rattle.darray_positions.proofs.Index as index
use Rattle.darray_positions.proofs.Blocks as block
use Rattle.darray.proofs.Flush.{Shows}
use Rattle.darray.proofs.Building as building
use Rattle.darray.proofs.Building.{BlocksWritten}

-- ---- a write of the index of the len bits of ws to the words l₀

-- the words are written as far as the block j, with o overflow positions; a is to hold the positions of a block, and the cursor is not past the next one's
pub record Writing (b : Bool) (ws : List ℕ) (len : ℕ) (l₀ l a : List ℕ) (from : Cursor) (o j : ℕ) : Type 0 where
  pub long : length a ≡ 1024
  pub ahead : Ahead (bit_over b ws) from (1024 * j)
  pub written : BlocksWritten (positions b ws len) l₀ l o j

pub writing_none : (b : Bool) (ws : List ℕ) (len : ℕ) (l a : List ℕ) → length a ≡ 1024 → Writing b ws len l l a (record { word = 0; before = 0 }) 0 0
unfolding count
writing_none b ws len l a e = record { long = e; ahead = record { counted = refl; to_come = omega arith }; written = building.written_none (positions b ws len) l }

module _ (b : Bool) (ws : List ℕ) (len : ℕ) (l₀ : List ℕ) (s : Sizes) (w : Writable (positions b ws len) len (length ws) s (length l₀)) where
  abbrev P : List ℕ
  P = positions b ws len

  module _ (l a : List ℕ) (from : Cursor) (o j : ℕ) (x : Writing b ws len l₀ l a from o j) where
    pub spilled_lt : o < 2 ^ 63
    spilled_lt = omega (arith, x.written.spilled, index.before_le P j, building.positions_lt b ws len w.few)

    -- the whole index is written
    pub writing_all : j ≡ s.entries → l ≡ index_words P ++ drop (length (index_words P)) l₀
    writing_all e = building.written_all P l₀ l o j (e ∙ w.entries) w.room x.written

    -- and all its overflow positions
    pub spilled_all : j ≡ s.entries → o ≡ before P (blocks P)
    spilled_all e = x.written.spilled ∙ ap (before P) (e ∙ w.entries)

    -- the next block
    module _ (h : j < s.entries) where
      pub first_there : 1024 * j < s.positions
      first_there = building.block_there b ws len s (length l₀) w j h

      pub load_ready : (length a ≡ 1024) × Ahead (bit_over b ws) from (1024 * j) × Inside (bit_over b ws) (length ws) (last_in_block s.positions j) × (1024 * j < s.positions)
      load_ready = (x.long, x.ahead, building.inside b ws len s (length l₀) w j (min 1024 (s.positions - 1024 * j)) h refl (1024 * j) refl, first_there)

      module _ (z : ℕ) (ez : z ≡ min 1024 (s.positions - 1024 * j)) (a' : List ℕ) (c : Cursor) (y : Loaded (bit_over b ws) (1024 * j) (min 1024 (s.positions - 1024 * j)) a' c) where
        shows : Shows P j a'
        shows = building.loaded_shows b ws len s (length l₀) w j z h ez a' c y

        pub flush_ready : (s.lanes + 3 < 2 ^ 64) × Flushable a' z j (lanes_at s j) o (over_at s o) (length l)
        unfolding lanes
        flush_ready = (
          omega (arith, w.lanes, building.positions_lt b ws len w.few),
          building.flushable b ws len s (length l₀) w j z h ez a' shows o x.written.spilled l x.written.long,
        )

        pub writing_next : (l' : List ℕ) (k : ℕ) → k ≡ block_spill a' z → l' ≡ flushed a' z j (lanes_at s j) o (over_at s o) l → Writing b ws len l₀ l' a' c (o + k) (j + 1)
        writing_next l' k f d = record {
          long = y.sampled.long;
          ahead = block.ahead_le _ _ _ _ (omega arith) y.next;
          written = building.written_next b ws len s (length l₀) w j z h ez a' shows l₀ l l' o k refl x.written d f;
        }
