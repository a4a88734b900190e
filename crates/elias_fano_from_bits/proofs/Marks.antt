-- Marks in the source: how one is moved on, and which position of the high bits is found by it. Assumes nothing.
use Rattle.std.specs.Prelude.{Some}
use mathlib.Core.Path.{◌≡◌, refl, sym, ap, ap₂, ◌∙◌, subst, subst⁻¹}
use mathlib.Core.List.{List}
use mathlib.Core.Bool.{Bool, true, false}
use Prim.Native.Nat.{ℕ, ◌+◌, ◌-◌, ◌*◌, ◌/◌, ◌^◌, ◌≤◌, ◌<◌, min}
use native.Mathlib.Nat.{le_refl, le_trans, le_of_lt, mul-le-mul}
use native.Mathlib.Omega.{arith}
use lib.ListN.{length, get_or}
use Rattle.broadword.specs.Bits.{count}
use Rattle.broadword.specs.Places.{select}
use Rattle.broadword.proofs.Count.{count_mono}
use Rattle.broadword.proofs.Find.{selected}
use Rattle.bit_words.specs.Inner.{Findable}
use Rattle.bit_words.specs.Vector.{words_for, bit_over}
use Rattle.bit_words.proofs.Valid.{valid}
use Rattle.darray_positions.proofs.Positions as position
use Rattle.elias_fano_from_bits.specs.Building.{low_of, Marked, Upto, Seekable, Seen}
use Rattle.elias_fano_from_bits.specs.FromBits.{ones_of}
use Rattle.elias_fano_from_bits.specs.declared.measure.Mark.{Mark}
use Rattle.elias_fano_from_bits.proofs.Highs as highs
use Rattle.elias_fano_from_bits.proofs.Ones as ones

-- ---- where a bucket ends

-- ---- a mark moved on

module _ (ws : List ℕ) (len : ℕ) (m : Mark) (a : Marked ws len m) (to : ℕ) (h : m.place ≤ to) (g : to ≤ len) (t : ℕ) (et : count (bit_over true ws) (m.place / 64 * 64) + t ≡ count (bit_over true ws) m.place) where
  module _ (w : ℕ) (ew : count (bit_over true ws) (m.place / 64 * 64) + w ≡ count (bit_over true ws) (to / 64 * 64)) where
    pub whole_is : m.ones - t + w ≡ count (bit_over true ws) (to / 64 * 64)
    whole_is = omega (arith, a.counted)

    module _ (z : ℕ) (ez : count (bit_over true ws) (to / 64 * 64) + z ≡ count (bit_over true ws) to) where
      pub mark_is : m.ones - t + w + z ≡ count (bit_over true ws) to
      mark_is = omega (arith, whole_is)

      pub marked : Marked ws len (record { place = to; ones = m.ones - t + w + z })
      marked = record { counted = mark_is; upto = g }

-- ---- a one of the high bits

module _ (ws : List ℕ) (len l k : ℕ) (m : Mark) (s : Seekable ws len true l k m) where
  abbrev f : ℕ → ℕ
  f = bit_over true ws

  there : k < length (ones_of ws len)
  there = subst (λ (y : ℕ). k < y) (highs.ones_many ws len s.countable) s.there

  counted : k < count (bit_over true ws) len
  counted = subst (λ (y : ℕ). k < y) (ones.many ws len) there

  place_lt : m.place < len
  place_lt = position.below f m.place len (let c = counted in omega (arith, s.marked.counted, s.upto))

  room : words_for len ≤ length ws
  room = (valid ws len s.countable.valid).room

  pub findable : (used : ℕ) → used ≡ words_for len → Findable ws used m.place
  findable used e = record {
    start = let p = place_lt in omega arith;
    room = let p = room in omega arith;
    few = omega (arith, s.countable.small);
  }

  number_is : count f m.place + (k - m.ones) ≡ k
  number_is = omega (arith, s.marked.counted, s.upto)

  module _ (used : ℕ) (e : used ≡ words_for len) where
    pub ahead : count (bit_over true ws) m.place + (k - m.ones) < count (bit_over true ws) (used * 64)
    ahead = let n = number_is in let c = counted in let d = count_mono f len (used * 64) (omega arith) in omega arith

    module _ (x : ℕ) (ex : select (bit_over true ws) (used * 64) (count (bit_over true ws) m.place + (k - m.ones)) ≡ Some x) where
      found : (x < len) × (x ≡ get_or (ones_of ws len) k 0) × (count (bit_over true ws) x ≡ k)
      found =
          let q = selected f (used * 64) k x (sym (ap (select f (used * 64)) number_is) ∙ ex) in
          (position.below f x len (let c = counted in omega (arith, q.before)), sym (ones.is ws len k x q.one q.before there), q.before)

      pub seen_one : Seen ws len true l k (record { at = x / 2 ^ l + k; mark = record { place = x; ones = k } })
      seen_one = record {
        at = ap₂ (λ (y z : ℕ). y / 2 ^ z + k) found.1 s.low ∙ sym (highs.one_is ws len s.countable k s.there);
        marked = record { counted = sym found.2; upto = le_of_lt found.0 };
        upto = le_refl k;
      }

      pub high_fits : x / 2 ^ l + k < 2 ^ 64
      high_fits =
          let a : x / 2 ^ l < 2 * length (ones_of ws len) = subst⁻¹ (λ (z : ℕ). x / 2 ^ z < 2 * length (ones_of ws len)) s.low (highs.high_small ws len s.countable x (le_of_lt found.0)) in
          let b = there in
          omega (arith, s.countable.most)

-- ---- a zero of the high bits

module _ (ws : List ℕ) (len l k : ℕ) (m : Mark) (s : Seekable ws len false l k m) (x : ℕ) (ex : x ≡ min ((k + 1) * 2 ^ l) len) where
  min_right : (y : ℕ) → min y len ≤ len
  min_right y = omega arith

  min-left : (y : ℕ) → min y len ≤ y
  min-left y = omega arith

  pub zero_upto : x ≤ len
  zero_upto = subst⁻¹ (λ (y : ℕ). y ≤ len) ex (min_right ((k + 1) * 2 ^ l))

  pub zero_after : m.place ≤ x
  zero_after = subst⁻¹ (λ (y : ℕ). m.place ≤ y) ex (both ((k + 1) * 2 ^ l) s.upto)
    where
      both : (y : ℕ) → m.place ≤ y → m.place ≤ min y len
      both y h = omega (arith, s.marked.upto)

  module _ (r : Mark) (a : Marked ws len r) (e : r.place ≡ x) where
    ones_are : r.ones ≡ count (bit_over true ws) (min ((k + 1) * 2 ^ low_of ws len) len)
    ones_are = a.counted ∙ ap (count (bit_over true ws)) (e ∙ ex ∙ ap (λ (z : ℕ). min ((k + 1) * 2 ^ z) len) s.low)

    pub seen_zero : Seen ws len false l k (record { at = r.ones + k; mark = r })
    seen_zero = record {
      at = ap (λ (y : ℕ). y + k) ones_are ∙ sym (highs.zero_is ws len s.countable k s.there);
      marked = a;
      upto = subst⁻¹ (λ (y : ℕ). y ≤ (k + 1) * 2 ^ l) (e ∙ ex) (min-left ((k + 1) * 2 ^ l));
    }

    pub zero_fits : r.ones + k < 2 ^ 64
    zero_fits =
        let c : r.ones ≤ length (ones_of ws len) = subst⁻¹ (λ (y : ℕ). r.ones ≤ y) (ones.many ws len) (subst⁻¹ (λ (y : ℕ). y ≤ count (bit_over true ws) len) a.counted (count_mono (bit_over true ws) r.place len a.upto)) in
        let d = highs.few ws len s.countable false in
        omega (arith, s.there, s.countable.most)

-- ---- going on

-- a mark that has not passed one position has not passed a later one
pub upto_more : (b : Bool) (l : ℕ) (m : Mark) (j k : ℕ) → j ≤ k → Upto b l m j → Upto b l m k
upto_more true l m j k h u = omega arith
upto_more false l m j k h u = le_trans u (mul-le-mul (let a : j + 1 ≤ k + 1 = omega arith in a) (le_refl (2 ^ l)))

-- the first mark has passed nothing
pub first_mark : (ws : List ℕ) (len : ℕ) → Marked ws len (record { place = 0; ones = 0 })
unfolding count
first_mark ws len = record { counted = refl; upto = omega arith }

pub first_upto : (b : Bool) (l k : ℕ) → Upto b l (record { place = 0; ones = 0 }) k
first_upto true l k = omega arith
first_upto false l k = omega arith
