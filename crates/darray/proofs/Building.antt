-- The index, written block by block. Assumes nothing.
use mathlib.Core.Path.{◌≡◌, refl, sym, ap, ap₂, ◌∙◌, subst}
use mathlib.Core.List.{List, ◌++◌}
use mathlib.Core.Bool.{Bool, true, false}
use Prim.Native.Nat.{ℕ, ◌+◌, ◌-◌, ◌*◌, ◌/◌, ◌^◌, ◌≤◌, ◌<◌, min}
use native.Mathlib.Nat.{not-suc-le-zero}
use native.Mathlib.Decide.{dec_lt}
use native.Mathlib.Numerals.{add-one}
use native.Mathlib.Omega.{arith}
use lib.Dec.{leb}
use lib.ListN.{length, get_or, drop, length-append, length-drop, get_or-append}
use lib.Seq.{ext_get_or, get_or-append-add, get_or-drop}
use Rattle.broadword.specs.Bits.{count}
use Rattle.bit_words.specs.Vector.{bit_over}
use Rattle.bit_words.proofs.Runs.{bit_over_le}
use Rattle.darray_positions.specs.Positions.{positions}
use Rattle.darray_positions.specs.Index.{pos, blocks, size, wide, spill, before, lanes, lane_words, index_words}
use Rattle.darray_positions.specs.Scan.{Position, Inside}
use Rattle.darray.specs.Sizes.{sizes_by, Sized, Writable}
use Rattle.darray.specs.Pending.{Due, Sampled, Loaded, LanesRise, block_wide, block_spill, flushed, Flushable, Matches, lanes_at, over_at}
use Rattle.darray_positions.specs.declared.scan.Cursor.{Cursor}
use Rattle.darray.specs.declared.inner.Sizes.{Sizes}
use Rattle.darray_positions.proofs.Positions as places
use Rattle.darray_positions.proofs.Index as index
use Rattle.darray_positions.proofs.Index.{Holds}
use Rattle.darray_positions.proofs.Blocks as block
use Rattle.darray_positions.proofs.Counts as counts
use Rattle.darray.proofs.Flush as flush
use Rattle.darray.proofs.Flush.{Shows}
use Rattle.darray.proofs.Matching as matching
use Rattle.darray.proofs.Sampling as sampling

pub holds_none : (P l : List ℕ) → Holds P l 0
unfolding before count
holds_none P l = record { entries = λ k h. absurd (not-suc-le-zero h); lane_words = λ t h g. absurd (not-suc-le-zero h); spilled = λ x h. absurd (not-suc-le-zero h) }

pub holds-whole : (P l l' : List ℕ) → length l' ≡ length l → length (index_words P) ≤ length l → Holds P l' (blocks P) → ((k : ℕ) → length (index_words P) ≤ k → get_or l' k 0 ≡ get_or l k 0)
    → l' ≡ index_words P ++ drop (length (index_words P)) l
holds-whole P l l' same room h past =
    ext_get_or 0 l' (index_words P ++ drop (length (index_words P)) l) (omega (arith, length-append (index_words P) (drop (length (index_words P)) l), length-drop (length (index_words P)) l))
    (λ i _. by i (dec_lt i (length (index_words P))))
  where
    by : (i : ℕ) → Dec (i < length (index_words P)) → get_or l' i 0 ≡ get_or (index_words P ++ drop (length (index_words P)) l) i 0
    by i (yes g) = index.holds_all P l' h i g ∙ sym (get_or-append (index_words P) (drop (length (index_words P)) l) 0 i g)
    by i (no g) =
        let k : ℕ = i - length (index_words P) in
        let e : length (index_words P) + k ≡ i = omega arith in
        past i (omega arith) ∙ ap (λ (m : ℕ). get_or l m 0) (sym e) ∙ sym (get_or-drop (length (index_words P)) l k 0)
        ∙ sym (get_or-append-add (index_words P) (drop (length (index_words P)) l) k 0) ∙ ap (λ (m : ℕ). get_or (index_words P ++ drop (length (index_words P)) l) m 0) e

-- the words of the blocks before j are those of the index, o overflow positions among them, and the words past it are those of l₀
pub record BlocksWritten (P l₀ l : List ℕ) (o j : ℕ) : Type 0 where
  pub spilled : o ≡ before P j
  pub long : length l ≡ length l₀
  pub holds : Holds P l j
  pub past : (k : ℕ) → length (index_words P) ≤ k → get_or l k 0 ≡ get_or l₀ k 0

pub written_none : (P l : List ℕ) → BlocksWritten P l l 0 0
unfolding before count
written_none P l = record { spilled = refl; long = refl; holds = holds_none P l; past = λ k g. refl }

pub written_all : (P l₀ l : List ℕ) (o j : ℕ) → j ≡ blocks P → length (index_words P) ≤ length l₀ → BlocksWritten P l₀ l o j → l ≡ index_words P ++ drop (length (index_words P)) l₀
written_all P l₀ l o j e room w = holds-whole P l₀ l w.long room (subst (Holds P l) e w.holds) w.past

pub shows_rising : (b : Bool) (ws : List ℕ) (len j : ℕ) → j < blocks (positions b ws len) → (a : List ℕ) (z : ℕ) → z ≡ size (positions b ws len) j → Shows (positions b ws len) j a → LanesRise a z
shows_rising b ws len j h a z e is i g =
    let P = positions b ws len in
    let n = index.size-pos P j h in
    let g' : 32 * i < size P j = omega arith in
    let f = is.every 0 n in
    let m = is.every i g' in
    let l = ap (λ (k : ℕ). get_or a (k - 1) 0) e ∙ is.last in (
      omega (arith, index.rising b ws len (1024 * j + 0) (1024 * j + 32 * i) (omega arith) (index.size_in P j (32 * i) g')),
      omega (arith, index.rising b ws len (1024 * j + 32 * i) (1024 * j + (size P j - 1)) (omega arith) (index.size_in P j (size P j - 1) (omega arith))),
    )

-- a block is wide by its ends
wide_block : (a : List ℕ) (n : ℕ) (P : List ℕ) (j : ℕ) → get_or a 0 0 ≡ pos P (1024 * j) → get_or a (n - 1) 0 ≡ pos P (1024 * j + (size P j - 1)) → block_wide a n ≡ wide P j
unfolding block_wide wide
wide_block a n P j e d = ap₂ (λ (x y : ℕ). leb 65536 (x - y)) d e

-- what is said of the sizes
-- by how many positions there are, and how many of them go to the overflow
pub by_sized : (P : List ℕ) (n o : ℕ) → n ≡ length P → o ≡ before P ((n + 1023) / 1024) → Sized P (sizes_by n o)
unfolding blocks lanes
by_sized P n o e f =
    let d = ap (λ (m : ℕ). (m + 1023) / 1024) e in
    record { positions = e; entries = d; lanes = ap (λ (m : ℕ). (m + 31) / 32) e; overflow = f ∙ ap (before P) d }

pub lanes_start : (P : List ℕ) (s : Sizes) → s.entries ≡ blocks P → s.lanes ≡ lanes P → s.entries + (s.lanes + 3) / 4 ≡ blocks P + lane_words P
unfolding lane_words
lanes_start P s e l = ap₂ (λ (x y : ℕ). x + (y + 3) / 4) e l

module _ (P : List ℕ) (s : Sizes) (z : Sized P s) where
  pub index_length : s.entries + (s.lanes + 3) / 4 + s.overflow ≡ length (index_words P)
  index_length = ap₂ (λ (x y : ℕ). x + y) (lanes_start P s z.entries z.lanes) z.overflow ∙ sym (index.length_index P)

  pub sizes_lt : length P < 2 ^ 63 → (s.lanes + 3 < 2 ^ 64) × (s.entries + (s.lanes + 3) / 4 + s.overflow < 2 ^ 64)
  unfolding blocks lanes
  sizes_lt h = (omega (arith, z.lanes), omega (arith, z.lanes, z.entries, z.overflow, index.before_le P (blocks P)))

pub positions_lt : (b : Bool) (ws : List ℕ) (len : ℕ) → len < 2 ^ 63 → length (positions b ws len) < 2 ^ 63
positions_lt b ws len h = omega (arith, places.length-places (bit_over b ws) (bit_over_le b ws) len, counts.count_few b ws len)

module _ (b : Bool) (ws : List ℕ) (len : ℕ) (s : Sizes) (m : ℕ) (w : Writable (positions b ws len) len (length ws) s m) where
  pub positions-count : s.positions ≡ count (bit_over b ws) len
  positions-count = w.positions ∙ places.length-places (bit_over b ws) (bit_over_le b ws) len

  -- a block's first position is there
  pub block_there : (j : ℕ) → j < s.entries → 1024 * j < s.positions
  unfolding blocks
  block_there j h = omega (arith, w.entries, w.positions)

  pub size_is : (j z : ℕ) → z ≡ min 1024 (s.positions - 1024 * j) → z ≡ size (positions b ws len) j
  unfolding size
  size_is j z e = e ∙ ap (λ (n : ℕ). min 1024 (n - 1024 * j)) w.positions

  -- the block j, as it was taken
  module _ (j z : ℕ) (h : j < s.entries) (ez : z ≡ min 1024 (s.positions - 1024 * j)) where
    pub inside : (k : ℕ) → k ≡ 1024 * j → Inside (bit_over b ws) (length ws) (k + (z - 1))
    inside k e = block.inside b ws len s.positions positions-count (length ws) (k + (z - 1)) (omega (arith, w.words)) w.few (omega (arith, block_there j h))

    pub there : j < blocks (positions b ws len)
    there = subst (λ (x : ℕ). j < x) w.entries h

    -- where those were stored that are due
    pub sampled_shows : (a : List ℕ) (v : Bool) → v ≡ wide (positions b ws len) j → Sampled (bit_over b ws) (1024 * j) z v a → Shows (positions b ws len) j a
    sampled_shows a v e t = record {
      every = λ i g. at_number (32 * i) g (sampling.due_32 v i);
      last = ap (λ (k : ℕ). get_or a (k - 1) 0) (sym (size_is j z ez)) ∙ sym (at_position (z - 1) (get_or a (z - 1) 0) t.last (omega (arith, block_there j h))) ∙ ap (λ (k : ℕ). pos (positions b ws len) (1024 * j + (k - 1))) (size_is j z ez);
      all = λ k g. at_number k (omega (arith, index.spill_le (positions b ws len) j)) (spilled-due v e k g);
    }
      where
        at_position : (k x : ℕ) → Position (bit_over b ws) (1024 * j + k) x → k < z → pos (positions b ws len) (1024 * j + k) ≡ x
        at_position k x p g = block.pos_is b ws len s.positions positions-count (1024 * j + k) x p (omega (arith, block_there j h))

        at_number : (k : ℕ) → k < size (positions b ws len) j → Due v k → get_or a k 0 ≡ pos (positions b ws len) (1024 * j + k)
        at_number k g d = let g' : k < z = omega (arith, size_is j z ez) in sym (at_position k (get_or a k 0) (t.stored k g' d) g')

        spilled-due : (u : Bool) → u ≡ wide (positions b ws len) j → (k : ℕ) → k < spill (positions b ws len) j → Due u k
        spilled-due true q k g = tt
        spilled-due false q k g = absurd (omega (arith, index.spill_near (positions b ws len) j (sym q)))

    -- where they were loaded
    pub loaded_shows : (a : List ℕ) (c : Cursor) → Loaded (bit_over b ws) (1024 * j) (min 1024 (s.positions - 1024 * j)) a c → Shows (positions b ws len) j a
    loaded_shows a c l = sampled_shows a (block_wide a z) wide_so stored
      where
        stored : Sampled (bit_over b ws) (1024 * j) z (block_wide a z) a
        stored = subst (λ (x : ℕ). Sampled (bit_over b ws) (1024 * j) x (block_wide a x) a) (sym ez) l.sampled

        at_position : (k x : ℕ) → Position (bit_over b ws) k x → k < s.positions → x ≡ pos (positions b ws len) k
        at_position k x p g = sym (block.pos_is b ws len s.positions positions-count k x p g)

        first_so : get_or a 0 0 ≡ pos (positions b ws len) (1024 * j)
        first_so =
            let d : 1024 * j + 0 ≡ 1024 * j = omega arith in
            at_position (1024 * j) (get_or a 0 0) (subst (λ (k : ℕ). Position (bit_over b ws) k (get_or a 0 0)) d (stored.stored 0 (omega (arith, block_there j h)) (sampling.due_0 (block_wide a z)))) (block_there j h)

        last_so : get_or a (z - 1) 0 ≡ pos (positions b ws len) (1024 * j + (size (positions b ws len) j - 1))
        last_so = at_position (1024 * j + (z - 1)) (get_or a (z - 1) 0) stored.last (omega (arith, block_there j h)) ∙ ap (λ (k : ℕ). pos (positions b ws len) (1024 * j + (k - 1))) (size_is j z ez)

        wide_so : block_wide a z ≡ wide (positions b ws len) j
        wide_so = wide_block a z (positions b ws len) j first_so last_so

    module _ (a : List ℕ) (stored : Shows (positions b ws len) j a) where
      pub spill_is : block_spill a z ≡ spill (positions b ws len) j
      spill_is = ap (block_spill a) (size_is j z ez) ∙ flush.spill_block (positions b ws len) j there a stored

      pub rising : LanesRise a z
      rising = shows_rising b ws len j there a z (size_is j z ez) stored

      -- o and k overflow positions
      pub spilled_next : (o k : ℕ) → o ≡ before (positions b ws len) j → k ≡ block_spill a z → o + k ≡ before (positions b ws len) (j + 1)
      spilled_next o k e q = ap₂ (λ (u v : ℕ). u + v) e (q ∙ spill_is) ∙ sym (ap (before (positions b ws len)) (add-one j) ∙ index.before_next (positions b ws len) j)

      module _ (o : ℕ) (eo : o ≡ before (positions b ws len) j) (l : List ℕ) where
        lanes_at_lem : lanes_at s j ≡ blocks (positions b ws len) + 8 * j
        lanes_at_lem = omega (arith, w.entries)

        over_at_lem : over_at s o ≡ blocks (positions b ws len) + lane_words (positions b ws len) + before (positions b ws len) j
        over_at_lem = omega (arith, lanes_start (positions b ws len) s w.entries w.lanes)

        pub index_matches : l ≡ index_words (positions b ws len) → Matches a z j (lanes_at s j) o (over_at s o) l
        index_matches e =
            matching.matches_at a l (sym (size_is j z ez)) refl (sym lanes_at_lem) (sym eo) (sym over_at_lem) (matching.index_matches (positions b ws len) j there a stored l e)

        pub next_matches : Matches a z j (lanes_at s j) o (over_at s o) l → Holds (positions b ws len) l j → Holds (positions b ws len) l (j + 1)
        next_matches e = matching.matches_next (positions b ws len) j there a stored l (matching.matches_at a l (size_is j z ez) refl lanes_at_lem eo over_at_lem e)

      module _ (o : ℕ) (eo : o ≡ before (positions b ws len) j) (l : List ℕ) (el : length l ≡ m) where
        room : length (index_words (positions b ws len)) ≤ length l
        room = omega (arith, w.room)

        pub flushable : Flushable a z j (s.entries + 8 * j) o (s.entries + (s.lanes + 3) / 4 + o) (length l)
        flushable = record {
          some = omega (arith, block_there j h);
          few = omega arith;
          rising = rising;
          entry_room = omega (arith, index.length_index (positions b ws len), there, room);
          lanes_room = omega (arith, index.length_index (positions b ws len), flush.lanes_room (positions b ws len) j there, room, w.entries, size_is j z ez);
          over_room = omega (arith, flush.over_room (positions b ws len) j there a stored l room, lanes_start (positions b ws len) s w.entries w.lanes, ap (block_spill a) (size_is j z ez));
        }

        module _ (l' : List ℕ) (e : l' ≡ flushed a z j (s.entries + 8 * j) o (s.entries + (s.lanes + 3) / 4 + o) l) where
          is_after : l' ≡ flushed a (size (positions b ws len) j) j (blocks (positions b ws len) + 8 * j) (before (positions b ws len) j) (blocks (positions b ws len) + lane_words (positions b ws len) + before (positions b ws len) j) l
          is_after = cc (w.entries, lanes_start (positions b ws len) s w.entries w.lanes, size_is j z ez)

          pub next_long : length l' ≡ length l
          next_long = ap length is_after ∙ flush.length-after (positions b ws len) j there a stored l room

          pub next_holds : Holds (positions b ws len) l j → Holds (positions b ws len) l' (j + 1)
          next_holds s = subst (λ (x : List ℕ). Holds (positions b ws len) x (j + 1)) (sym is_after) (flush.holds_next (positions b ws len) j there a stored l room s)

          pub next_past : (k : ℕ) → length (index_words (positions b ws len)) ≤ k → get_or l' k 0 ≡ get_or l k 0
          next_past k g = ap (λ (x : List ℕ). get_or x k 0) is_after ∙ flush.after-past (positions b ws len) j there a stored l room k g

      -- one block more is written, and m overflow positions
      pub written_next : (l₀ l l' : List ℕ) (o k : ℕ) → length l₀ ≡ m → BlocksWritten (positions b ws len) l₀ l o j → l' ≡ flushed a z j (s.entries + 8 * j) o (s.entries + (s.lanes + 3) / 4 + o) l → k ≡ block_spill a z
          → BlocksWritten (positions b ws len) l₀ l' (o + k) (j + 1)
      written_next l₀ l l' o k e x d q =
          let el : length l ≡ m = x.long ∙ e in
          record {
            spilled = spilled_next o k x.spilled q;
            long = next_long o x.spilled l el l' d ∙ x.long;
            holds = next_holds o x.spilled l el l' d x.holds;
            past = λ i g. next_past o x.spilled l el l' d i g ∙ x.past i g;
          }
