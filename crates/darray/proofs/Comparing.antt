-- Words that are compared with the index block by block, before it is known how many overflow positions they are to have. Assumes nothing.
use mathlib.Core.Path.{◌≡◌, refl, sym, ap, ◌∙◌, subst}
use mathlib.Core.List.{List}
use mathlib.Core.Bool.{Bool}
use Prim.Native.Nat.{ℕ, ◌+◌, ◌-◌, ◌*◌, ◌/◌, ◌^◌, ◌≤◌, ◌<◌, min}
use native.Mathlib.Nat.{le_refl}
use native.Mathlib.Omega.{arith}
use lib.ListN.{length}
use Rattle.broadword.specs.Bits.{count}
use Rattle.bit_words.specs.Vector.{bit_over, words_for}
use Rattle.darray_positions.specs.Positions.{positions}
use Rattle.darray_positions.specs.Index.{blocks, lanes, lane_words, before, index_words}
use Rattle.darray_positions.specs.Scan.{Ahead, Inside, last_in_block}
use Rattle.darray.specs.Sizes.{Sized, Writable, Comparable, sizes_by}
use Rattle.darray.specs.Pending.{Loaded, block_spill, Comparing, SameWords}
use Rattle.darray_positions.specs.declared.scan.Cursor.{Cursor}
use Rattle.darray.specs.declared.inner.Sizes.{Sizes}
use Rattle.darray_positions.proofs.Index as index
use Rattle.darray_positions.proofs.Index.{Holds}
use Rattle.darray_positions.proofs.Blocks as block
use Rattle.darray.proofs.Flush as flush
use Rattle.darray.proofs.Flush.{Shows}
use Rattle.darray.proofs.Building as building
use Rattle.darray.proofs.Matching as matching

-- the words of the blocks before j are those of the index, o overflow positions among them; a is to hold the positions of a block, and the cursor is
-- not past the next one's
pub record BlocksCompared (b : Bool) (ws : List ℕ) (len : ℕ) (s : Sizes) (l a : List ℕ) (from : Cursor) (o j : ℕ) : Type 0 where
  pub long : length a ≡ 1024
  pub ahead : Ahead (bit_over b ws) from (1024 * j)
  pub spilled : o ≡ before (positions b ws len) j
  pub room : o ≤ s.overflow
  pub holds : Holds (positions b ws len) l j

pub compared_none : (b : Bool) (ws : List ℕ) (len : ℕ) (s : Sizes) (l a : List ℕ) → length a ≡ 1024 → BlocksCompared b ws len s l a (record { word = 0; before = 0 }) 0 0
unfolding count before
compared_none b ws len s l a e = record {
  long = e;
  ahead = record { counted = refl; to_come = omega arith };
  spilled = refl;
  room = omega arith;
  holds = building.holds_none (positions b ws len) l;
}

-- an index has its entries and lanes at least
pub too_short : (b : Bool) (ws : List ℕ) (len n : ℕ) → n ≡ count (bit_over b ws) len → (l : List ℕ) → length l < (n + 1023) / 1024 + ((n + 31) / 32 + 3) / 4 → l ≡ index_words (positions b ws len) → ⊥
unfolding blocks lanes lane_words
too_short b ws len n e l h q = omega (arith, index.length_index (positions b ws len), block.length_is b ws len n e, ap length q)

-- the words that are left are to be overflow positions
pub least_is : (n t : ℕ) (s : Sizes) → s ≡ sizes_by n 0 → t ≡ s.entries + (s.lanes + 3) / 4 + s.overflow → t ≡ (n + 1023) / 1024 + ((n + 31) / 32 + 3) / 4
least_is n t s e q = omega (arith, q, ap (λ (z : Sizes). z.entries) e, ap (λ (z : Sizes). z.lanes) e, ap (λ (z : Sizes). z.overflow) e)

pub left_over : (b : Bool) (ws : List ℕ) (len n t k : ℕ) (s : Sizes) → words_for len ≤ length ws → len < 2 ^ 63 → n ≡ count (bit_over b ws) len → s ≡ sizes_by n 0 → t ≡ s.entries + (s.lanes + 3) / 4 + s.overflow → t ≤ k
    → Comparable b ws len (record { positions = s.positions; entries = s.entries; lanes = s.lanes; overflow = k - t }) k
left_over b ws len n t k s h f e d q r =
    let p : s.positions ≡ n = ap (λ (z : Sizes). z.positions) d in
    let o : s.overflow ≡ 0 = ap (λ (z : Sizes). z.overflow) d in
    record {
      words = h;
      few = f;
      positions = p ∙ e;
      entries = ap (λ (z : Sizes). z.entries) d ∙ ap (λ (m : ℕ). (m + 1023) / 1024) (sym p);
      lanes = ap (λ (z : Sizes). z.lanes) d ∙ ap (λ (m : ℕ). (m + 31) / 32) (sym p);
      long = omega (arith, q, o, r);
    }

module _ (b : Bool) (ws : List ℕ) (len : ℕ) (s : Sizes) (l : List ℕ) (w : Comparable b ws len s (length l)) where
  abbrev P : List ℕ
  P = positions b ws len

  -- the sizes that the index has
  abbrev right : Sizes
  right = record { positions = s.positions; entries = s.entries; lanes = s.lanes; overflow = before P (blocks P) }

  sized : Sized P right
  unfolding blocks lanes
  sized =
      let e = block.length_is b ws len s.positions w.positions in
      record { positions = e; entries = w.entries ∙ ap (λ (n : ℕ). (n + 1023) / 1024) e; lanes = w.lanes ∙ ap (λ (n : ℕ). (n + 31) / 32) e; overflow = refl }

  writable : Writable P len (length ws) right (length (index_words P))
  writable = record { positions = sized.positions; entries = sized.entries; lanes = sized.lanes; words = w.words; few = w.few; room = le_refl (length (index_words P)) }

  length_is : length (index_words P) ≡ s.entries + (s.lanes + 3) / 4 + before P (blocks P)
  length_is = sym (building.index_length P right sized)

  -- words that are the index have room for what it spills, and no more
  pub index_room : l ≡ index_words P → s.overflow ≡ before P (blocks P)
  index_room e = omega (arith, w.long, length_is, ap length e)

  module _ (a : List ℕ) (from : Cursor) (o j : ℕ) (x : BlocksCompared b ws len s l a from o j) where
    pub spilled_lt : o < 2 ^ 63
    spilled_lt = omega (arith, x.spilled, index.before_le P j, building.positions_lt b ws len w.few)

    -- all of them are compared
    module _ (e : j ≡ s.entries) where
      at_end : o ≡ before P (blocks P)
      at_end = x.spilled ∙ ap (before P) (e ∙ sized.entries)

      pub is_index : o ≡ s.overflow → l ≡ index_words P
      is_index d = matching.holds_is P l (omega (arith, w.long, length_is, at_end)) (subst (Holds P l) (e ∙ sized.entries) x.holds)

      pub index_all : l ≡ index_words P → o ≡ s.overflow
      index_all i = at_end ∙ sym (index_room i)

    -- the next block
    module _ (h : j < s.entries) where
      pub first_there : 1024 * j < s.positions
      first_there = building.block_there b ws len right (length (index_words P)) writable j h

      pub load_ready : (length a ≡ 1024) × Ahead (bit_over b ws) from (1024 * j) × Inside (bit_over b ws) (length ws) (last_in_block s.positions j) × (1024 * j < s.positions)
      load_ready = (x.long, x.ahead, building.inside b ws len right (length (index_words P)) writable j (min 1024 (s.positions - 1024 * j)) h refl (1024 * j) refl, first_there)

      module _ (z : ℕ) (ez : z ≡ min 1024 (s.positions - 1024 * j)) (a' : List ℕ) (c : Cursor) (y : Loaded (bit_over b ws) (1024 * j) (min 1024 (s.positions - 1024 * j)) a' c) where
        stored : Shows P j a'
        stored = building.loaded_shows b ws len right (length (index_words P)) writable j z h ez a' c y

        there : j < blocks P
        there = building.there b ws len right (length (index_words P)) writable j z h ez

        pub comparing : Comparing a' z s j o (length l)
        unfolding lane_words
        comparing = record {
          some = omega (arith, first_there);
          few = omega arith;
          rising = building.rising b ws len right (length (index_words P)) writable j z h ez a' stored;
          entry_room = h;
          lanes_room = omega (arith, flush.lanes_room P j there, sized.lanes, building.size_is b ws len right (length (index_words P)) writable j z ez);
          lanes_fit = (building.sizes_lt P right sized (building.positions_lt b ws len w.few)).0;
          spilled = x.room;
          long = w.long;
        }

        -- an index has the block's words
        pub index_same : l ≡ index_words P → SameWords a' z s j o l
        index_same e = record {
          room = omega (arith, index_room e, spilled_next, index.before_mono P (j + 1) (blocks P) (omega (arith, there)));
          matches = building.index_matches b ws len right (length (index_words P)) writable j z h ez a' stored o x.spilled l e;
        }
          where
            spilled_next : o + block_spill a' z ≡ before P (j + 1)
            spilled_next = building.spilled_next b ws len right (length (index_words P)) writable j z h ez a' stored o (block_spill a' z) x.spilled refl

        pub compared_next : (k : ℕ) → k ≡ block_spill a' z → SameWords a' z s j o l → BlocksCompared b ws len s l a' c (o + k) (j + 1)
        compared_next k q m = record {
          long = y.sampled.long;
          ahead = block.ahead_le _ _ _ _ (omega arith) y.next;
          spilled = building.spilled_next b ws len right (length (index_words P)) writable j z h ez a' stored o k x.spilled q;
          room = omega (arith, m.room);
          holds = building.next_matches b ws len right (length (index_words P)) writable j z h ez a' stored o x.spilled l m.matches x.holds;
        }
