-- Laws of the index of a list of positions: its length, what each of its words is, and how an entry, a lane and an overflow position
-- are read back. Assumes nothing.
use mathlib.Core.Path.{◌≡◌, refl, sym, ap, ap₂, ◌∙◌, subst}
use mathlib.Core.List.{List, ◌++◌}
use mathlib.Core.Bool.{Bool, true, false, cond}
use Prim.Native.Nat.{ℕ, zero, suc, ◌+◌, ◌-◌, ◌*◌, ◌/◌, ◌%◌, ◌^◌, ◌≤◌, ◌<◌, min, zero-le}
use native.Mathlib.Nat.{not-suc-le-zero, le_of_suc-le-suc, le_refl, mul_comm}
use native.Mathlib.Decide.{dec_lt, le_ind}
use native.Mathlib.Omega.{arith}
use borrow.Author.Tests.{lt-ltb, le-ltb, leb-false}
use lib.Bits.{bit_and, and_mask}
use lib.Dec.{leb}
use lib.ListN.{length, get_or, length-append, get_or-append}
use lib.Seq.{get_or-append-add}
use Rattle.broadword.specs.Bits.{count}
use Rattle.broadword.proofs.Count.{count_mono}
use Rattle.broadword.proofs.Fields.{digit_is, digit-word}
use Rattle.bit_words.specs.Vector.{bit_over}
use Rattle.bit_words.proofs.Runs.{bit_over_le}
use Rattle.darray_positions.specs.Positions.{positions}
use Rattle.darray_positions.specs.Index.{table, pos, blocks, size, wide, spill, before, entry, lanes, lane, lane_word, lane_words, overflow, index_words}
use Rattle.darray_positions.proofs.Positions as positions

-- ---- lists

pub length-table : (f : ℕ → ℕ) (n : ℕ) → length (table f n) ≡ n
unfolding table
length-table f zero = refl
length-table f (suc n) = ap suc (length-table (λ i. f (suc i)) n)

pub get_d_table : (f : ℕ → ℕ) (n i : ℕ) → i < n → get_or (table f n) i 0 ≡ f i
unfolding table
get_d_table f zero i h = absurd (not-suc-le-zero h)
get_d_table f (suc n) zero h = refl
get_d_table f (suc n) (suc i) h = get_d_table (λ i. f (suc i)) n i (le_of_suc-le-suc h)

-- what stands past a list of n elements
get_d_past : (xs ys : List ℕ) (n i : ℕ) → length xs ≡ n → get_or (xs ++ ys) (n + i) 0 ≡ get_or ys i 0
get_d_past xs ys n i e = ap (λ (m : ℕ). get_or (xs ++ ys) (m + i) 0) (sym e) ∙ get_or-append-add xs ys i 0

-- ---- positions that rise

-- the numbers of P never fall
abbrev pub Rising : List ℕ → Type 0
Rising P = (j k : ℕ) → j ≤ k → k < length P → pos P j ≤ pos P k

pub rising : (b : Bool) (ws : List ℕ) (len : ℕ) → Rising (positions b ws len)
unfolding pos
rising b ws len j k l h =
    positions.place_mono (bit_over b ws) (bit_over_le b ws) len j k l (subst (λ (n : ℕ). k < n) (positions.length-places (bit_over b ws) (bit_over_le b ws) len) h)

module _ (P : List ℕ) where
  -- ---- sizes

  pub size_le : (j : ℕ) → size P j ≤ 1024
  unfolding size
  size_le j = omega arith

  -- a block has a first position, and all of its positions are there
  pub size-pos : (j : ℕ) → j < blocks P → 0 < size P j
  unfolding size blocks
  size-pos j h = omega arith

  pub size_in : (j i : ℕ) → i < size P j → 1024 * j + i < length P
  unfolding size
  size_in j i h = omega arith

  pub before_none : before P 0 ≡ 0
  unfolding before count
  before_none = refl

  pub before_next : (j : ℕ) → before P (suc j) ≡ before P j + spill P j
  unfolding before count
  before_next j = refl

  pub before_mono : (j m : ℕ) → j ≤ m → before P j ≤ before P m
  unfolding before
  before_mono j m h = count_mono (spill P) j m h

  pub spill_le : (j : ℕ) → spill P j ≤ size P j
  unfolding spill
  spill_le j = by (wide P j)
    where
      by : (w : Bool) → cond w (size P j) 0 ≤ size P j
      by true = le_refl (size P j)
      by false = zero-le

  -- what the block j spills, by its size and its ends
  pub spill_by : (j z first last : ℕ) → z ≡ min 1024 (length P - 1024 * j) → first ≡ pos P (1024 * j) → last ≡ pos P (1024 * j + (z - 1)) → cond (leb 65536 (last - first)) z 0 ≡ spill P j
  unfolding spill wide size
  spill_by j z first last ez ef el =
      ap₂ (λ (x y : ℕ). cond (leb 65536 (y - x)) z 0) ef el
      ∙ ap (λ (m : ℕ). cond (leb 65536 (pos P (1024 * j + (m - 1)) - pos P (1024 * j))) m 0) ez

  pub spill-wide : (j : ℕ) → wide P j ≡ true → spill P j ≡ size P j
  unfolding spill
  spill-wide j e = rw e

  pub spill_near : (j : ℕ) → wide P j ≡ false → spill P j ≡ 0
  unfolding spill
  spill_near j e = rw e

  before_le_min : (j : ℕ) → before P j ≤ min (1024 * j) (length P)
  unfolding before count size
  before_le_min zero = zero-le
  before_le_min (suc j) = omega (arith, before_le_min j, spill_le j)

  pub before_le : (j : ℕ) → before P j ≤ length P
  before_le j = omega (arith, before_le_min j)

  pub length-overflow : (j : ℕ) → length (overflow P j) ≡ before P j
  unfolding overflow before count
  length-overflow zero = refl
  length-overflow (suc j) =
      length-append (overflow P j) (table (λ i. pos P (1024 * j + i)) (spill P j))
      ∙ ap₂ (λ (x y : ℕ). x + y) (length-overflow j) (length-table (λ i. pos P (1024 * j + i)) (spill P j))

  -- the overflow positions of the block j, among those of the blocks before m
  pub overflow_at : (j i m : ℕ) → i < spill P j → j < m → get_or (overflow P m) (before P j + i) 0 ≡ pos P (1024 * j + i)
  unfolding overflow
  overflow_at j i m h l =
      le_ind (λ (k : ℕ). get_or (overflow P k) (before P j + i) 0 ≡ pos P (1024 * j + i))
      (get_d_past (overflow P j) (table (λ i. pos P (1024 * j + i)) (spill P j)) (before P j) i (length-overflow j) ∙ get_d_table (λ i. pos P (1024 * j + i)) (spill P j) i h)
      (λ k g e.
      get_or-append (overflow P k) (table (λ i. pos P (1024 * k + i)) (spill P k)) 0 (before P j + i) (omega (arith, length-overflow k, before_next j, before_mono (suc j) k g)) ∙ e)
      m l

  -- ---- the words

  pub length_index : length (index_words P) ≡ blocks P + lane_words P + before P (blocks P)
  unfolding index_words
  length_index =
      let b : ℕ = blocks P in
      let w : ℕ = lane_words P in
      simp (length-append, length-table, length-overflow) (omega arith)

  pub index_entry : (j : ℕ) → j < blocks P → get_or (index_words P) j 0 ≡ entry P j
  unfolding index_words
  index_entry j h =
      get_or-append (table (entry P) (blocks P)) (table (lane_word P) (lane_words P) ++ overflow P (blocks P)) 0 j (omega (arith, length-table (entry P) (blocks P)))
      ∙ get_d_table (entry P) (blocks P) j h

  pub index_lanes : (t : ℕ) → t < lane_words P → get_or (index_words P) (blocks P + t) 0 ≡ lane_word P t
  unfolding index_words
  index_lanes t h =
      get_d_past (table (entry P) (blocks P)) (table (lane_word P) (lane_words P) ++ overflow P (blocks P)) (blocks P) t (length-table (entry P) (blocks P))
      ∙ get_or-append (table (lane_word P) (lane_words P)) (overflow P (blocks P)) 0 t (omega (arith, length-table (lane_word P) (lane_words P)))
      ∙ get_d_table (lane_word P) (lane_words P) t h

  pub index_overflow : (x : ℕ) → get_or (index_words P) (blocks P + lane_words P + x) 0 ≡ get_or (overflow P (blocks P)) x 0
  unfolding index_words
  index_overflow x =
      let e : blocks P + lane_words P + x ≡ blocks P + (lane_words P + x) = omega arith in
      ap (λ (i : ℕ). get_or (table (entry P) (blocks P) ++ (table (lane_word P) (lane_words P) ++ overflow P (blocks P))) i 0) e
      ∙ get_d_past (table (entry P) (blocks P)) (table (lane_word P) (lane_words P) ++ overflow P (blocks P)) (blocks P) (lane_words P + x) (length-table (entry P) (blocks P))
      ∙ get_d_past (table (lane_word P) (lane_words P)) (overflow P (blocks P)) (lane_words P) x (length-table (lane_word P) (lane_words P))

  -- the overflow word of the position i of a wide block j
  pub index_spilled : (j i : ℕ) → i < spill P j → j < blocks P → get_or (index_words P) (blocks P + lane_words P + (before P j + i)) 0 ≡ pos P (1024 * j + i)
  index_spilled j i h l = index_overflow (before P j + i) ∙ overflow_at j i (blocks P) h l

  -- ---- entries

  pub entry-wide : (j : ℕ) → wide P j ≡ true → entry P j ≡ 2 ^ 64 - (before P j + 1)
  unfolding entry
  entry-wide j e = rw e

  pub entry_near : (j : ℕ) → wide P j ≡ false → entry P j ≡ pos P (1024 * j)
  unfolding entry
  entry_near j e = rw e

  -- ---- lanes

  pub lane_wide : (i : ℕ) → i < lanes P → wide P (i / 32) ≡ true → lane P i ≡ 65535
  unfolding lane
  lane_wide i h e = rw (lt-ltb i (lanes P) h, e)

  pub lane_near : (i : ℕ) → i < lanes P → wide P (i / 32) ≡ false → lane P i ≡ pos P (32 * i) - pos P (1024 * (i / 32))
  unfolding lane
  lane_near i h e = rw (lt-ltb i (lanes P) h, e)

  pub lane_none : (i : ℕ) → lanes P ≤ i → lane P i ≡ 0
  unfolding lane
  lane_none i h = rw (le-ltb i (lanes P) h)

  -- the block of a lane that is there, and its place in the block
  lane_in : (i : ℕ) → i < lanes P → (i / 32 < blocks P) × (32 * i - 1024 * (i / 32) < size P (i / 32))
  unfolding lanes blocks size
  lane_in i h = (omega arith, omega arith)

  -- 32 lanes are 8 words
  pub lane_words_le : lane_words P ≤ 8 * blocks P
  unfolding lane_words blocks lanes
  lane_words_le = omega arith

module _ (P : List ℕ) (r : Rising P) where
  -- no position of a block that is not wide lies 65,536 or more past its first
  pub near_lt : (j i : ℕ) → wide P j ≡ false → i < size P j → pos P (1024 * j + i) - pos P (1024 * j) < 65536
  unfolding wide
  near_lt j i e h =
      let s = size_in P j (size P j - 1) (omega arith) in
      omega (arith, leb-false 65536 (pos P (1024 * j + (size P j - 1)) - pos P (1024 * j)) e, r (1024 * j + i) (1024 * j + (size P j - 1)) (omega arith) s)

  pub lane_lt : (i : ℕ) → lane P i < 65536
  lane_lt i = by_there (dec_lt i (lanes P))
    where
      by_wide : (w : Bool) → wide P (i / 32) ≡ w → i < lanes P → lane P i < 65536
      by_wide true e h = omega (arith, lane_wide P i h e)
      by_wide false e h =
          let s = lane_in P i h in
          let k : 1024 * (i / 32) + (32 * i - 1024 * (i / 32)) ≡ 32 * i = omega arith in
          let n = near_lt (i / 32) (32 * i - 1024 * (i / 32)) e s.1 in
          omega (arith, lane_near P i h e, ap (pos P) k)

      by_there : Dec (i < lanes P) → lane P i < 65536
      by_there (yes h) = by_wide (wide P (i / 32)) refl h
      by_there (no g) = omega (arith, lane_none P i (omega arith))

  -- the lane i of the word t, as a program takes it
  pub lane_read : (t i : ℕ) → i < 4 → bit_and (lane_word P t / 2 ^ (16 * i)) 0xffff ≡ lane P (4 * t + i)
  unfolding lane_word
  lane_read t i h =
      and_mask (lane_word P t / 2 ^ (16 * i)) 16
      ∙ ap (λ (q : ℕ). lane_word P t / 2 ^ q % 2 ^ 16) (mul_comm 16 i)
      ∙ sym (digit_is 16 (lane_word P t) i)
      ∙ digit-word 16 (λ i. lane P (4 * t + i)) 4 (λ i _. lane_lt (4 * t + i)) i h

-- ---- the words of the first blocks

-- l has the words of the blocks before j in their places
pub record Holds (P l : List ℕ) (j : ℕ) : Type 0 where
  pub entries : (k : ℕ) → k < j → get_or l k 0 ≡ entry P k
  pub spilled : (x : ℕ) → x < before P j → get_or l (blocks P + lane_words P + x) 0 ≡ get_or (overflow P (blocks P)) x 0
  pub lane_words : (t : ℕ) → t < 8 * j → t < lane_words P → get_or l (blocks P + t) 0 ≡ lane_word P t

-- where it has those of all blocks, it has the words of the index
pub holds_all : (P l : List ℕ) → Holds P l (blocks P) → (i : ℕ) → i < length (index_words P) → get_or l i 0 ≡ get_or (index_words P) i 0
holds_all P l h i d = by_entry (dec_lt i (blocks P))
  where
    by_lane : (t : ℕ) → blocks P + t ≡ i → Dec (t < lane_words P) → get_or l i 0 ≡ get_or (index_words P) i 0
    by_lane t e (yes g) =
        ap (λ (k : ℕ). get_or l k 0) (sym e) ∙ h.lane_words t (omega (arith, lane_words_le P)) g ∙ sym (index_lanes P t g) ∙ ap (λ (k : ℕ). get_or (index_words P) k 0) e
    by_lane t e (no g) =
        let x : ℕ = t - lane_words P in
        let q : blocks P + lane_words P + x ≡ i = omega arith in
        ap (λ (k : ℕ). get_or l k 0) (sym q) ∙ h.spilled x (omega (arith, length_index P)) ∙ sym (index_overflow P x) ∙ ap (λ (k : ℕ). get_or (index_words P) k 0) q

    by_entry : Dec (i < blocks P) → get_or l i 0 ≡ get_or (index_words P) i 0
    by_entry (yes g) = h.entries i g ∙ sym (index_entry P i g)
    by_entry (no g) = let t : ℕ = i - blocks P in by_lane t (omega arith) (dec_lt t (lane_words P))
