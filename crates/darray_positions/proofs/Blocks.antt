-- The blocks of a bit vector's positions, by what a scan of its words finds. Assumes nothing.
use mathlib.Core.Path.{◌≡◌, refl, sym, ap, ap₂, ◌∙◌, subst}
use mathlib.Core.List.{List}
use mathlib.Core.Bool.{Bool, cond}
use Prim.Native.Nat.{ℕ, suc, ◌+◌, ◌-◌, ◌*◌, ◌^◌, ◌≤◌, ◌<◌, min}
use native.Mathlib.Nat.{le_trans, lt_of_le_of_lt, lt_of_not-le}
use native.Mathlib.Decide.{dec_le}
use native.Mathlib.Numerals.{add-one}
use native.Mathlib.Omega.{arith}
use lib.Dec.{leb}
use lib.ListN.{length}
use Rattle.broadword.specs.Bits.{count}
use Rattle.broadword.proofs.Count.{count_mono}
use Rattle.bit_words.specs.Vector.{bit_over}
use Rattle.bit_words.proofs.Runs.{bit_over_le}
use Rattle.darray_positions.specs.Positions.{positions}
use Rattle.darray_positions.specs.Index.{pos, size, wide, spill, before}
use Rattle.darray_positions.specs.Scan.{Position, Ahead, Inside, Spans, last_in_block}
use Rattle.darray_positions.specs.declared.scan.Cursor.{Cursor}
use Rattle.darray_positions.specs.declared.scan.Span.{Span}
use Rattle.darray_positions.proofs.Positions as places
use Rattle.darray_positions.proofs.Index as index

pub ahead_le : (f : ℕ → ℕ) (c : Cursor) (j k : ℕ) → j ≤ k → Ahead f c j → Ahead f c k
ahead_le f c j k h a = record { counted = a.counted; to_come = le_trans a.to_come h }

pub inside_le : (f : ℕ → ℕ) (m j k : ℕ) → j ≤ k → Inside f m k → Inside f m j
inside_le f m j k h i = record { bits = i.bits; room = i.room; few = i.few; there = lt_of_le_of_lt h i.there }

-- positions rise with their numbers
pub position_le : (f : ℕ → ℕ) (j k x y : ℕ) → Position f j x → Position f k y → j ≤ k → x ≤ y
unfolding count
position_le f j k x y p q h = by (dec_le x y)
  where
    by : Dec (x ≤ y) → x ≤ y
    by (yes l) = l
    by (no l) = absurd (omega (arith, count_mono f (suc y) x (lt_of_not-le l), p.before, q.before, q.one))

module _ (b : Bool) (ws : List ℕ) (len n : ℕ) (e : n ≡ count (bit_over b ws) len) where
  pub length_is : n ≡ length (positions b ws len)
  length_is = e ∙ sym (places.length-places (bit_over b ws) (bit_over_le b ws) len)

  pub inside : (m k : ℕ) → len ≤ m * 64 → len < 2 ^ 63 → k < n → Inside (bit_over b ws) m k
  inside m k r s h = record { bits = len; room = r; few = omega arith; there = subst (λ (x : ℕ). k < x) e h }

  pub pos_is : (k i : ℕ) → Position (bit_over b ws) k i → k < n → pos (positions b ws len) k ≡ i
  unfolding pos
  pos_is k i p h = places.place_is (bit_over b ws) (bit_over_le b ws) len k i p.one p.before (subst (λ (x : ℕ). k < x) e h)

  module _ (j : ℕ) (s : Span) (h : 1024 * j < n) (p : Spans (bit_over b ws) n j s) where
    pub first_is : pos (positions b ws len) (1024 * j) ≡ s.first
    first_is = pos_is (1024 * j) s.first p.first h

    pub last_is : pos (positions b ws len) (last_in_block n j) ≡ s.last
    last_is = pos_is (last_in_block n j) s.last p.last (omega arith)

    pub span_rises : s.first ≤ s.last
    span_rises = omega (arith, first_is, last_is, index.rising b ws len (1024 * j) (last_in_block n j) (omega arith) (omega (arith, length_is)))

    pub size_is : min 1024 (n - 1024 * j) ≡ size (positions b ws len) j
    unfolding size
    size_is = ap (λ (m : ℕ). min 1024 (m - 1024 * j)) length_is

    pub wide_is : leb 65536 (s.last - s.first) ≡ wide (positions b ws len) j
    unfolding wide
    wide_is = ap₂ (λ (x y : ℕ). leb 65536 (x - y)) (sym last_is ∙ ap (λ (z : ℕ). pos (positions b ws len) (1024 * j + (z - 1))) size_is) (sym first_is)

    pub spill_is : cond (leb 65536 (s.last - s.first)) (min 1024 (n - 1024 * j)) 0 ≡ spill (positions b ws len) j
    unfolding spill
    spill_is = ap₂ (λ (w : Bool) (z : ℕ). cond w z 0) wide_is size_is

    -- a block more spills
    pub before_more : (o k z : ℕ) → o ≡ before (positions b ws len) j → z ≡ min 1024 (n - 1024 * j) → k ≡ cond (leb 65536 (s.last - s.first)) z 0 → o + k ≡ before (positions b ws len) (j + 1)
    before_more o k z p q r =
        ap₂ (λ (x y : ℕ). x + y) p (r ∙ ap (λ (y : ℕ). cond (leb 65536 (s.last - s.first)) y 0) q ∙ spill_is)
        ∙ sym (ap (before (positions b ws len)) (add-one j) ∙ index.before_next (positions b ws len) j)

-- ---- a full block, by its ends

module _ (b : Bool) (ws : List ℕ) (len j : ℕ) (h : 1024 * j + 1023 < count (bit_over b ws) len) (first last : ℕ) (p : Position (bit_over b ws) (1024 * j) first) (q : Position (bit_over b ws) (1024 * j + 1023) last) (c : Cursor) (a : Ahead (bit_over b ws) c (1024 * j + 1023)) where
  abbrev n : ℕ
  n = count (bit_over b ws) len

  ends : Span
  ends = record { first = first; last = last; next = c }

  full : min 1024 (n - 1024 * j) ≡ 1024
  full = omega arith

  last-number : 1024 * j + 1023 ≡ last_in_block n j
  last-number = omega arith

  spans : Spans (bit_over b ws) n j ends
  unfolding ends
  spans = record { first = p; last = subst (λ (k : ℕ). Position (bit_over b ws) k last) last-number q; next = subst (λ (k : ℕ). Ahead (bit_over b ws) c k) last-number a }

  -- what it spills, with o spilled before it
  pub full_next : (o k : ℕ) → o ≡ before (positions b ws len) j → k ≡ cond (leb 65536 (last - first)) 1024 0 → o + k ≡ before (positions b ws len) (j + 1)
  unfolding ends
  full_next o k e g =
      let s : k ≡ spill (positions b ws len) j = g ∙ ap (λ (z : ℕ). cond (leb 65536 (last - first)) z 0) (sym full) ∙ spill_is b ws len n refl j ends (omega arith) spans in
      ap₂ (λ (x y : ℕ). x + y) e s ∙ sym (ap (before (positions b ws len)) (add-one j) ∙ index.before_next (positions b ws len) j)
