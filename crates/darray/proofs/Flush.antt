-- What a flush writes: the laws of `put` and of a block of pending positions, and that it makes the words of one block more the index's.
-- Assumes nothing.
use mathlib.Core.Path.{◌≡◌, refl, sym, ap, ap₂, ◌∙◌}
use mathlib.Core.List.{List, ◌++◌}
use mathlib.Core.Bool.{Bool, true, false, cond}
use mathlib.Core.Logic.{◌⊎◌, ⊎_elim}
use Prim.Native.Nat.{ℕ, zero, suc, ◌+◌, ◌-◌, ◌*◌, ◌/◌, ◌^◌, ◌≤◌, ◌<◌, zero-le}
use native.Mathlib.Nat.{le_refl, not-suc-le-zero, eq-or-lt_of_le, le_of_suc-le-suc}
use native.Mathlib.Decide.{dec_lt}
use native.Mathlib.Numerals.{add-one}
use native.Mathlib.Omega.{arith}
use borrow.Author.Tests.{lt-ltb, le-ltb, leb-false}
use lib.Dec.{leb}
use borrow.Rule.Slice.PartMut.{put_mid}
use lib.ListN.{length, get_or, set, take, drop, length-set}
use lib.Seq.{paste, get_or-set_same, get_or-set_other, take-take, length-take-le}
use Rattle.std.proofs.lemmas.List.Edits.{paste_none, paste_more}
use Rattle.std.proofs.lemmas.Slice.{put_mid-paste}
use Rattle.broadword.specs.Fields.{word}
use Rattle.broadword.proofs.Fields.{word_same}
use Rattle.darray_positions.specs.Index.{pos, blocks, size, wide, spill, before, entry, lanes, lane, lane_word, lane_words, overflow, index_words}
use Rattle.darray.specs.Pending.{LanesRise, block_wide, block_spill, block_entry, block_lane, block_lane_word, put, flushed}
use Rattle.darray_positions.proofs.Index as index
use Rattle.darray_positions.proofs.Index.{Holds}

-- ---- words at a place

pub length-put : (l : List ℕ) (at : ℕ) (f : ℕ → ℕ) (n : ℕ) → length (put l at f n) ≡ length l
unfolding put
length-put l at f zero = refl
length-put l at f (suc n) = length-set (put l at f n) (at + n) (f n) ∙ length-put l at f n

pub put_more : (l : List ℕ) (at : ℕ) (f : ℕ → ℕ) (n : ℕ) → put l at f (suc n) ≡ set (put l at f n) (at + n) (f n)
unfolding put
put_more l at f n = refl

pub put_none : (l : List ℕ) (at : ℕ) (f : ℕ → ℕ) → put l at f 0 ≡ l
unfolding put
put_none l at f = refl

pub put_in : (l : List ℕ) (at : ℕ) (f : ℕ → ℕ) (n i : ℕ) → at + n ≤ length l → i < n → get_or (put l at f n) (at + i) 0 ≡ f i
unfolding put
put_in l at f zero i h j = absurd (not-suc-le-zero j)
put_in l at f (suc n) i h j =
    ⊎_elim
    (λ (e : i ≡ n). ap (λ (k : ℕ). get_or (set (put l at f n) (at + n) (f n)) (at + k) 0) e ∙ get_or-set_same (put l at f n) (at + n) (f n) 0 (omega (arith, length-put l at f n)) ∙ ap f (sym e))
    (λ (g : i < n). get_or-set_other (put l at f n) (at + n) (at + i) (f n) 0 (λ (q : at + i ≡ at + n). omega arith) ∙ put_in l at f n i (omega arith) g)
    (eq-or-lt_of_le (le_of_suc-le-suc j))

pub put_low : (l : List ℕ) (at : ℕ) (f : ℕ → ℕ) (n k : ℕ) → k < at → get_or (put l at f n) k 0 ≡ get_or l k 0
unfolding put
put_low l at f zero k h = refl
put_low l at f (suc n) k h = get_or-set_other (put l at f n) (at + n) k (f n) 0 (λ (q : k ≡ at + n). omega arith) ∙ put_low l at f n k h

pub put_high : (l : List ℕ) (at : ℕ) (f : ℕ → ℕ) (n k : ℕ) → at + n ≤ k → get_or (put l at f n) k 0 ≡ get_or l k 0
unfolding put
put_high l at f zero k h = refl
put_high l at f (suc n) k h = get_or-set_other (put l at f n) (at + n) k (f n) 0 (λ (q : k ≡ at + n). omega arith) ∙ put_high l at f n k (omega arith)

-- the words of a list are as many values
pub put-paste : (l : List ℕ) (at : ℕ) (s : List ℕ) (n : ℕ) → at + n ≤ length l → n ≤ length s → put l at (λ i. get_or s i 0) n ≡ paste l at s n
unfolding put
put-paste l at s zero h k = paste_none l at s
put-paste l at s (suc n) h k =
    ap (λ (m : List ℕ). set m (at + n) (get_or s n 0)) (put-paste l at s n (omega arith) (omega arith))
    ∙ paste_more l at s n 0 (omega arith) k ∙ ap (paste l at s) (add-one n)

-- they are copied to the place
pub put_copied : (l : List ℕ) (at end : ℕ) (s c : List ℕ) (n : ℕ) → end ≡ at + n → end ≤ length l → n ≤ length s → c ≡ take n s → put_mid at (end - at) l c ≡ put l at (λ i. get_or s i 0) n
put_copied l at end s c n e h k q =
    put_mid-paste at (end - at) l c (take n s) n q (omega arith) (sym (length-take-le n s k))
    ∙ ap (λ (m : List ℕ). take at l ++ m ++ drop (at + n) l) (take-take n n s (le_refl n))
    ∙ sym (put-paste l at s n (omega arith) k)

-- ---- a block of pending positions

module _ (a : List ℕ) (n : ℕ) where
  pub lane_none : (i : ℕ) → n ≤ 32 * i → block_lane a n i ≡ 0
  unfolding block_lane
  lane_none i h = rw (le-ltb (32 * i) n h)

  pub lane_wide : (i : ℕ) → 32 * i < n → block_wide a n ≡ true → block_lane a n i ≡ 65535
  unfolding block_lane
  lane_wide i h e = rw (lt-ltb (32 * i) n h, e)

  pub lane_near : (i : ℕ) → 32 * i < n → block_wide a n ≡ false → block_lane a n i ≡ get_or a (32 * i) 0 - get_or a 0 0
  unfolding block_lane
  lane_near i h e = rw (lt-ltb (32 * i) n h, e)

  pub near_lt : (i : ℕ) → LanesRise a n → 32 * i < n → block_wide a n ≡ false → get_or a (32 * i) 0 - get_or a 0 0 < 65536
  unfolding block_wide
  near_lt i r h e = omega (arith, leb-false 65536 (get_or a (n - 1) 0 - get_or a 0 0) e, (r i h).1)

pub four : (f : ℕ → ℕ) → f 0 + f 1 * 65536 + (f 2 + f 3 * 65536) * 4294967296 ≡ word 16 f 4
unfolding word
four f = omega arith

-- ---- the block j of the positions P

-- a has the positions of the block that its words need
pub record Shows (P : List ℕ) (j : ℕ) (a : List ℕ) : Type 0 where
  pub every : (i : ℕ) → 32 * i < size P j → get_or a (32 * i) 0 ≡ pos P (1024 * j + 32 * i)
  pub last : get_or a (size P j - 1) 0 ≡ pos P (1024 * j + (size P j - 1))
  pub all : (k : ℕ) → k < spill P j → get_or a k 0 ≡ pos P (1024 * j + k)

module _ (P : List ℕ) (j : ℕ) (h : j < blocks P) (a : List ℕ) (is : Shows P j a) where
  first : get_or a 0 0 ≡ pos P (1024 * j)
  first = is.every 0 (index.size-pos P j h) ∙ ap (pos P) (let e : 1024 * j + 0 ≡ 1024 * j = omega arith in e)

  pub wide_block : block_wide a (size P j) ≡ wide P j
  unfolding block_wide wide
  wide_block = ap₂ (λ (x y : ℕ). leb 65536 (x - y)) is.last first

  pub spill_block : block_spill a (size P j) ≡ spill P j
  unfolding block_spill spill
  spill_block = ap (λ (w : Bool). cond w (size P j) 0) wide_block

  pub entry_block : block_entry a (size P j) (before P j) ≡ entry P j
  unfolding block_entry entry
  entry_block = ap₂ (λ (w : Bool) (x : ℕ). cond w (2 ^ 64 - (before P j + 1)) x) wide_block first

  lane_there : (i : ℕ) → i < 32 → 32 * i < size P j → 32 * j + i < lanes P
  unfolding lanes size
  lane_there i l g = omega arith

  lane_past : (i : ℕ) → i < 32 → size P j ≤ 32 * i → lanes P ≤ 32 * j + i
  unfolding lanes size blocks
  lane_past i l g = omega arith

  lane_block : (i : ℕ) → i < 32 → block_lane a (size P j) i ≡ lane P (32 * j + i)
  lane_block i l = by_there (dec_lt (32 * i) (size P j))
    where
      at : (32 * j + i) / 32 ≡ j
      at = omega arith

      by_wide : (w : Bool) → wide P j ≡ w → 32 * i < size P j → block_lane a (size P j) i ≡ lane P (32 * j + i)
      by_wide true e g = lane_wide a (size P j) i g (wide_block ∙ e) ∙ sym (index.lane_wide P (32 * j + i) (lane_there i l g) (ap (wide P) at ∙ e))
      by_wide false e g =
          let q : 32 * (32 * j + i) ≡ 1024 * j + 32 * i = omega arith in
          lane_near a (size P j) i g (wide_block ∙ e)
          ∙ ap₂ (λ (x y : ℕ). x - y) (is.every i g ∙ ap (pos P) (sym q)) (first ∙ ap (λ (k : ℕ). pos P (1024 * k)) (sym at))
          ∙ sym (index.lane_near P (32 * j + i) (lane_there i l g) (ap (wide P) at ∙ e))

      by_there : Dec (32 * i < size P j) → block_lane a (size P j) i ≡ lane P (32 * j + i)
      by_there (yes g) = by_wide (wide P j) refl g
      by_there (no g) = lane_none a (size P j) i (omega arith) ∙ sym (index.lane_none P (32 * j + i) (lane_past i l (omega arith)))

  pub lane_word_block : (t : ℕ) → t < 8 → block_lane_word a (size P j) t ≡ lane_word P (8 * j + t)
  unfolding block_lane_word lane_word
  lane_word_block t l =
      word_same 16 (λ i. block_lane a (size P j) (4 * t + i)) (λ i. lane P (4 * (8 * j + t) + i)) 4
      (λ i g. lane_block (4 * t + i) (omega arith) ∙ ap (lane P) (let e : 32 * j + (4 * t + i) ≡ 4 * (8 * j + t) + i = omega arith in e))

-- ---- the words of one block more

-- where the lane words of the block j stand
pub lanes_room : (P : List ℕ) (j : ℕ) → j < blocks P → 8 * j + (size P j + 127) / 128 ≤ lane_words P
unfolding blocks size lane_words lanes
lanes_room P j h = omega arith

pub lanes_all : (P : List ℕ) (j t : ℕ) → j < blocks P → t < 8 * (j + 1) → t < lane_words P → t < 8 * j + (size P j + 127) / 128
unfolding blocks size lane_words lanes
lanes_all P j t h g l = omega arith

module _ (P : List ℕ) (j : ℕ) (h : j < blocks P) (a : List ℕ) (is : Shows P j a) (l : List ℕ) (room : length (index_words P) ≤ length l) where
  pub over_room : blocks P + lane_words P + before P j + block_spill a (size P j) ≤ length l
  over_room = omega (arith, room, index.length_index P, spill_block P j h a is, index.before_next P j, index.before_mono P (suc j) (blocks P) h)

  abbrev after : List ℕ
  after = flushed a (size P j) j (blocks P + 8 * j) (before P j) (blocks P + lane_words P + before P j) l

  abbrev with_entry : List ℕ
  with_entry = set l j (block_entry a (size P j) (before P j))

  abbrev with_lanes : List ℕ
  with_lanes = put with_entry (blocks P + 8 * j) (block_lane_word a (size P j)) ((size P j + 127) / 128)

  pub length-after : length after ≡ length l
  unfolding flushed
  length-after =
      length-put with_lanes (blocks P + lane_words P + before P j) (λ i. get_or a i 0) (block_spill a (size P j))
      ∙ length-put with_entry (blocks P + 8 * j) (block_lane_word a (size P j)) ((size P j + 127) / 128)
      ∙ length-set l j (block_entry a (size P j) (before P j))

  -- outside the overflow of the block; outside its lanes too
  not_over : (k : ℕ) → k < blocks P + lane_words P + before P j → get_or after k 0 ≡ get_or with_lanes k 0
  unfolding flushed
  not_over k g = put_low with_lanes (blocks P + lane_words P + before P j) (λ i. get_or a i 0) (block_spill a (size P j)) k g

  not_lanes_low : (k : ℕ) → k < blocks P + 8 * j → get_or with_lanes k 0 ≡ get_or with_entry k 0
  not_lanes_low k g = put_low with_entry (blocks P + 8 * j) (block_lane_word a (size P j)) ((size P j + 127) / 128) k g

  not_lanes_high : (k : ℕ) → blocks P + lane_words P ≤ k → get_or with_lanes k 0 ≡ get_or with_entry k 0
  not_lanes_high k g = put_high with_entry (blocks P + 8 * j) (block_lane_word a (size P j)) ((size P j + 127) / 128) k (omega (arith, lanes_room P j h))

  not_entry : (k : ℕ) → (k ≡ j → ⊥) → get_or with_entry k 0 ≡ get_or l k 0
  not_entry k g = get_or-set_other l j k (block_entry a (size P j) (before P j)) 0 g

  -- the words past the index stay
  pub after-past : (k : ℕ) → length (index_words P) ≤ k → get_or after k 0 ≡ get_or l k 0
  unfolding flushed
  after-past k g =
      put_high with_lanes (blocks P + lane_words P + before P j) (λ i. get_or a i 0) (block_spill a (size P j)) k
      (omega (arith, index.length_index P, spill_block P j h a is, index.before_next P j, index.before_mono P (suc j) (blocks P) h))
      ∙ not_lanes_high k (omega (arith, index.length_index P))
      ∙ not_entry k (λ (e : k ≡ j). omega (arith, index.length_index P))

  fits : j < length l
  fits = omega (arith, index.length_index P)

  pub holds_next : Holds P l j → Holds P after (j + 1)
  unfolding flushed
  holds_next s = record {
    entries = λ k g. by_entry k (eq-or-lt_of_le (below_one k j g));
    lane_words = λ t g e. by_lane t g e (dec_lt t (8 * j));
    spilled = λ x g. by_over x g (dec_lt x (before P j));
  }
    where
      below_one : (k j : ℕ) → k < j + 1 → k ≤ j
      below_one k j g = omega arith

      by_entry : (k : ℕ) → (k ≡ j) ⊎ (k < j) → get_or after k 0 ≡ entry P k
      by_entry k w =
          ⊎_elim
          (λ (e : k ≡ j).
          not_over k (omega arith) ∙ not_lanes_low k (omega arith) ∙ ap (λ (m : ℕ). get_or with_entry m 0) e
          ∙ get_or-set_same l j (block_entry a (size P j) (before P j)) 0 fits ∙ entry_block P j h a is ∙ ap (entry P) (sym e))
          (λ (g : k < j). not_over k (omega arith) ∙ not_lanes_low k (omega arith) ∙ not_entry k (λ (e : k ≡ j). omega arith) ∙ s.entries k g)
          w

      by_lane : (t : ℕ) → t < 8 * (j + 1) → t < lane_words P → Dec (t < 8 * j) → get_or after (blocks P + t) 0 ≡ lane_word P t
      by_lane t g e (yes q) =
          not_over (blocks P + t) (omega arith) ∙ not_lanes_low (blocks P + t) (omega arith) ∙ not_entry (blocks P + t) (λ (z : blocks P + t ≡ j). omega arith) ∙ s.lane_words t q e
      by_lane t g e (no q) =
          let i : ℕ = t - 8 * j in
          let z : blocks P + 8 * j + i ≡ blocks P + t = omega arith in
          let y : 8 * j + i ≡ t = omega arith in
          not_over (blocks P + t) (omega arith) ∙ ap (λ (m : ℕ). get_or with_lanes m 0) (sym z)
          ∙ put_in with_entry (blocks P + 8 * j) (block_lane_word a (size P j)) ((size P j + 127) / 128) i
          (omega (arith, lanes_room P j h, index.length_index P, length-set l j (block_entry a (size P j) (before P j)))) (omega (arith, lanes_all P j t h g e))
          ∙ lane_word_block P j h a is i (omega arith) ∙ ap (lane_word P) y

      by_over : (x : ℕ) → x < before P (j + 1) → Dec (x < before P j) → get_or after (blocks P + lane_words P + x) 0 ≡ get_or (overflow P (blocks P)) x 0
      by_over x g (yes q) =
          not_over (blocks P + lane_words P + x) (omega arith) ∙ not_lanes_high (blocks P + lane_words P + x) (omega arith) ∙ not_entry (blocks P + lane_words P + x) (λ (z : blocks P + lane_words P + x ≡ j). omega arith) ∙ s.spilled x q
      by_over x g (no q) =
          let i : ℕ = x - before P j in
          let z : blocks P + lane_words P + before P j + i ≡ blocks P + lane_words P + x = omega arith in
          let y : before P j + i ≡ x = omega arith in
          let m : i < spill P j = omega (arith, index.before_next P j, ap (before P) (add-one j)) in
          ap (λ (k : ℕ). get_or after k 0) (sym z)
          ∙ put_in with_lanes (blocks P + lane_words P + before P j) (λ i. get_or a i 0) (block_spill a (size P j)) i
          (omega (arith, over_room, length-put with_entry (blocks P + 8 * j) (block_lane_word a (size P j)) ((size P j + 127) / 128), length-set l j (block_entry a (size P j) (before P j)))) (omega (arith, spill_block P j h a is))
          ∙ is.all i m ∙ sym (index.overflow_at P j i (blocks P) m h) ∙ ap (λ (k : ℕ). get_or (overflow P (blocks P)) k 0) y

-- ---- the steps of a flush

pub spill_few : (a : List ℕ) (n : ℕ) → block_spill a n ≤ n
unfolding block_spill
spill_few a n = by (block_wide a n)
  where
    by : (w : Bool) → cond w n 0 ≤ n
    by true = le_refl n
    by false = zero-le

module _ (a : List ℕ) (n j lanes_at o over_at : ℕ) (l l₁ l₂ : List ℕ) (w : Bool) (v s : ℕ) (Lanes-put : l₁ ≡ put (set l j v) lanes_at (block_lane_word a n) ((n + 127) / 128)) where
  pub lanes-length : length l₁ ≡ length l
  lanes-length = ap length Lanes-put ∙ length-put (set l j v) lanes_at (block_lane_word a n) ((n + 127) / 128) ∙ length-set l j v

  pub flush_is : w ≡ block_wide a n → v ≡ cond w (2 ^ 64 - (o + 1)) (get_or a 0 0) → s ≡ block_spill a n → l₂ ≡ put l₁ over_at (λ i. get_or a i 0) s → l₂ ≡ flushed a n j lanes_at o over_at l
  unfolding flushed block_entry
  flush_is p q r e =
      e ∙ ap₂ (λ (m : List ℕ) (k : ℕ). put m over_at (λ i. get_or a i 0) k) Lanes-put r
      ∙ ap (λ (x : ℕ). put (put (set l j x) lanes_at (block_lane_word a n) ((n + 127) / 128)) over_at (λ i. get_or a i 0) (block_spill a n))
      (q ∙ ap (λ (b : Bool). cond b (2 ^ 64 - (o + 1)) (get_or a 0 0)) p)

  pub flush_length : l₂ ≡ put l₁ over_at (λ i. get_or a i 0) s → length l₂ ≡ length l
  flush_length e = ap length e ∙ length-put l₁ over_at (λ i. get_or a i 0) s ∙ lanes-length

pub entry_is : (a : List ℕ) (n o v : ℕ) (w : Bool) → w ≡ block_wide a n → v ≡ cond w (2 ^ 64 - (o + 1)) (get_or a 0 0) → v ≡ block_entry a n o
unfolding block_entry
entry_is a n o v w p q = q ∙ ap (λ (b : Bool). cond b (2 ^ 64 - (o + 1)) (get_or a 0 0)) p
