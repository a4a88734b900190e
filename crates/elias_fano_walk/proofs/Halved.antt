-- The halving of a search: by the high bits alone, and by whole values. f is a run of bits, T the list of times. Assumes nothing.
use Rattle.std.specs.Prelude.{Some}
use mathlib.Core.Path.{◌≡◌, refl, sym, ap, ◌∙◌, subst, subst⁻¹, subst₂}
use mathlib.Core.List.{List}
use mathlib.Core.Bool.{Bool, true, false, cond}
use Prim.Native.Nat.{ℕ, zero, suc, ◌+◌, ◌-◌, ◌*◌, ◌/◌, ◌^◌, ◌≤◌, ◌<◌}
use native.Mathlib.Nat.{le_refl, le_of_eq, le_of_lt, le_trans, lt_of_le_of_lt, lt_of_not-le, add-zero}
use native.Mathlib.Decide.{dec_lt, dec_le}
use native.Mathlib.Omega.{arith}
use borrow.Author.Tests.{ltb-true}
use lib.Dec.{ltb}
use lib.ListN.{length, get_or, take}
use lib.Pow.{shr_mono}
use Rattle.broadword.specs.Bits.{bit, count}
use Rattle.broadword.specs.Fields.{word}
use Rattle.broadword.specs.Places.{last, select}
use Rattle.broadword.proofs.Count.{bit_le, count_mono, count_add, count_le}
use Rattle.broadword.proofs.Find.{select_at, selected, last_is}
use Rattle.bit_words.specs.Vector.{bit_at, bit_over}
use Rattle.bit_words.proofs.Last.{not_one}
use Rattle.bit_words.proofs.Runs.{bit_at_le}
use Rattle.bit_words.proofs.Windows.{window_bit}
use Rattle.elias_fano_words.specs.Times.{rising}
use Rattle.elias_fano_words.proofs.Bitwise.{count_suc}
use Rattle.elias_fano_words.proofs.Rising.{rising_le}
use Rattle.elias_fano.specs.declared.image.Parts.{Parts}
use Rattle.elias_fano.specs.Accept.{times, accepted, parts_of}
use Rattle.elias_fano.specs.Opening.{OneAt, high_part}
use Rattle.elias_fano.proofs.Images as images
use Rattle.elias_fano.proofs.Selecting as selecting
use Rattle.elias_fano_walk.specs.declared.search.Section.{Section}
use Rattle.elias_fano_walk.specs.Searching.{Range, HighStart, OnesBefore, HighSection, ScanStart, ScanSection}

-- ---- a choice between two numbers

-- by what is known of the test
pub chosen : (t s : Bool) (x y r : ℕ) → t ≡ s → r ≡ cond s x y → r ≡ cond t x y
chosen t s x y r e h = h ∙ sym (ap (λ (b : Bool). cond b x y) e)

-- ---- by the high bits

module _ (f : ℕ → ℕ) (bits : (i : ℕ) → f i ≤ 1) (len : ℕ) where
  -- a one stands at its number or later
  pub past-number : (k x : ℕ) → select f len k ≡ Some x → k ≤ x
  past-number k x e = subst (λ (n : ℕ). n ≤ x) (selected f len k x e).before (count_le f x bits)

  -- so many places more have so many ones more at most
  spread : (x y : ℕ) → x ≤ y → count f y ≤ count f x + (y - x)
  spread x y h =
      let s : x + (y - x) ≡ y = omega arith in
      let e : count f y ≡ count f x + count (λ i. f (x + i)) (y - x) = ap (count f) (sym s) ∙ count_add f x (y - x) in
      omega (arith, e, count_le (λ i. f (x + i)) (y - x) (λ i. bits (x + i)))

  -- the zeros before a one do not get fewer
  apart : (j k x y : ℕ) → j ≤ k → select f len j ≡ Some x → select f len k ≡ Some y → x + k ≤ y + j
  apart j k x y h e g = go (dec_le x y)
    where
      cx : count f x ≡ j
      cx = (selected f len j x e).before

      cy : count f y ≡ k
      cy = (selected f len k y g).before

      go : Dec (x ≤ y) → x + k ≤ y + j
      go (yes l) = omega (arith, cx, cy, spread x y l)
      go (no n) =
          let m : count f (suc y) ≤ count f x = count_mono f (suc y) x (omega (arith, lt_of_not-le n)) in
          omega (arith, cx, cy, count_suc f y, (selected f len k y g).one)

  -- the ones before one that stands right after a zero have fewer zeros before them
  before_zero : (j k x y : ℕ) → select f len j ≡ Some x → select f len k ≡ Some y → 0 < y → f (y - 1) ≡ 0 → j < k → x + k < y + j
  before_zero j k x y e g some none l =
      let ex = (selected f len j x e).before in
      let ey = (selected f len k y g).before in
      let s : suc (y - 1) ≡ y = omega arith in
      let next = count_suc f (y - 1) in
      let same : count f (y - 1) ≡ k = omega (arith, ey, next, none, ap (count f) s) in
      let q : x < y - 1 = lt_of_not-le (λ (w : y - 1 ≤ x). omega (arith, ex, same, count_mono f (y - 1) x w)) in
      omega (arith, ex, same, q, spread x (y - 1) (le_of_lt q))

  -- as many ones as places, where all are ones
  full : (x d : ℕ) → ((j : ℕ) → j < d → f (x + j) ≡ 1) → count f (x + d) ≡ count f x + d
  full x zero g = ap (count f) (add-zero x) ∙ sym (add-zero (count f x))
  full x (suc d) g =
      let e : x + suc d ≡ suc (x + d) = omega arith in
      omega (arith, ap (count f) e, count_suc f (x + d), full x d (λ j l. g j (omega arith)), g d (omega arith))

  -- the first of a run of ones, d places before one of them
  run_first : (k y d : ℕ) → select f len k ≡ Some y → d ≤ y → ((j : ℕ) → j < d → f (y - d + j) ≡ 1) → select f len (k - d) ≡ Some (y - d)
  run_first k y d e h g =
      let s = selected f len k y e in
      let q : y - d + d ≡ y = omega arith in
      select_at f len (k - d) (y - d) (omega (arith, s.within)) (one s.one (dec_lt 0 d)) (omega (arith, full (y - d) d g, ap (count f) q, s.before))
    where
      one : f y ≡ 1 → Dec (0 < d) → f (y - d) ≡ 1
      one o (yes l) = ap f (sym (add-zero (y - d))) ∙ g 0 l
      one o (no n) = ap f (let q : y - d ≡ y = omega (arith, lt_of_not-le n) in q) ∙ o

  module _ (h a b : ℕ) (some : a < b) where
    pub high_ends : HighStart f len h a b a
    high_ends = record { from = le_refl a; upto = some; less = λ j x l m e. omega arith }

    -- a section of what is left from a start on
    pub high_join : (r : ℕ) (s : Section) → HighStart f len h a b r → HighSection f len h r b s → HighSection f len h a b s
    high_join r s p q = record {
      start = record { from = omega (arith, p.from, q.start.from); upto = q.start.upto; less = λ j x l m g. go j x l m g (dec_lt j r) };
      at = q.at;
      some = q.some;
      upto = q.upto;
      more = q.more;
    }
      where
        go : (j x : ℕ) → j < s.number → a ≤ j → select f len j ≡ Some x → Dec (j < r) → x < j + h
        go j x l m g (yes n) = p.less j x n m g
        go j x l m g (no n) = q.start.less j x l (omega (arith, lt_of_not-le n)) g

    -- a run of ones, d of them before that with the number k
    module _ (k y d : ℕ) (g : select f len k ≡ Some y) (run : OnesBefore f y d) (l : a + d < k) (kb : k < b) where
      first : select f len (k - d) ≡ Some (y - d)
      first = run_first k y d g (le_of_lt run.upto) run.ones

      -- it has as many zeros before it as wanted
      pub high_from_lem : y - k ≡ h → HighSection f len h a b (record { number = k - d; place = y - d; end = b })
      high_from_lem e = record {
        start = record {
          from = omega arith;
          upto = omega arith;
          less = λ j x o _ s. omega (arith, run.upto, before_zero j (k - d) x (y - d) s first (omega (arith, run.upto)) run.zero_at o, past-number k y g);
        };
        at = first;
        some = omega arith;
        upto = le_refl b;
        more = λ j x m n s. omega arith;
      }

      -- it has more
      pub high_until : (x : ℕ) → select f len a ≡ Some x → h < y - k → HighSection f len h a b (record { number = a; place = x; end = k - d })
      high_until x e m = record {
        start = high_ends;
        at = e;
        some = omega arith;
        upto = omega arith;
        more = λ j z n _ s. omega (arith, run.upto, apart (k - d) j (y - d) z n first s);
      }

    -- the part that can hold the first, by the one with the number k
    module _ (k : ℕ) (ak : a < k) (kb : k + 1 < b) (t : Bool) (lo hi : ℕ) (el : lo ≡ cond t k a) (eh : hi ≡ cond t b (k + 1)) where
      abbrev Part : ℕ → ℕ → Type 0
      Part l u = (l < u) × (u ≤ b) × (u - l < b - a)

      either_way : (c : Bool) → Part (cond c k a) (cond c b (k + 1))
      either_way true = (omega arith, omega arith, omega arith)
      either_way false = (omega arith, omega arith, omega arith)

      pub high_part_lem : Part lo hi
      high_part_lem = subst₂ Part (sym el) (sym eh) (either_way t)

      module _ (y : ℕ) (g : select f len k ≡ Some y) where
        holds : (c : Bool) → (c ≡ true → y - k < h) → (r : ℕ) → HighStart f len h (cond c k a) (cond c b (k + 1)) r → HighStart f len h a b r
        holds true l r s = record { from = omega (arith, s.from); upto = s.upto; less = λ j x m n e. go j x m e (dec_lt j k) }
          where
            go : (j x : ℕ) → j < r → select f len j ≡ Some x → Dec (j < k) → x < j + h
            go j x m e (yes q) = omega (arith, apart j k x y (omega arith) e g, l refl, past-number k y g)
            go j x m e (no q) = s.less j x m (omega (arith, lt_of_not-le q)) e
        holds false l r s = record { from = s.from; upto = omega (arith, s.upto); less = s.less }

        pub high_holds : t ≡ ltb (y - k) h → (r : ℕ) → HighStart f len h lo hi r → HighStart f len h a b r
        high_holds e r s = holds t (λ q. ltb-true (y - k) h (sym e ∙ q)) r (subst₂ (λ (l u : ℕ). HighStart f len h l u r) el eh s)

-- the ones after the last zero of the 64 bits before a place
pub after_zero : (ws : List ℕ) (end w z : ℕ) → 64 ≤ end → end ≤ length ws * 64 → w ≡ word 1 (λ i. bit_at (take (length ws) ws) (end - 64 + i)) 64 → last (bit (2 ^ 64 - 1 - w)) 64 ≡ Some z → (z < 64) × OnesBefore (bit_over true ws) end (63 - z)
unfolding bit_over
after_zero ws end w z h l e q =
    let r = last_is (bit (2 ^ 64 - 1 - w)) 64 z q in
    let v = r.within in (
      v,
      record {
        upto = omega arith;
        zero_at = let s : end - (63 - z) - 1 ≡ end - 64 + z = omega arith in omega (arith, ap (bit_at ws) s, r.one, flipped z v, bit_at_le ws (end - 64 + z));
        ones = λ j m.
            let b : z + 1 + j < 64 = omega arith in
            let s : end - 64 + (z + 1 + j) ≡ end - (63 - z) + j = omega arith in
            let o = not_one (bit (2 ^ 64 - 1 - w) (z + 1 + j)) (bit_le (2 ^ 64 - 1 - w) (z + 1 + j)) (r.after (z + 1 + j) (omega arith) b) in
            omega (arith, ap (bit_at ws) s, bit_at_le ws (end - 64 + (z + 1 + j)), o, flipped (z + 1 + j) b);
      },
    )
  where
    flipped : (j : ℕ) → j < 64 → bit (2 ^ 64 - 1 - w) j ≡ 1 - bit_at ws (end - 64 + j)
    flipped j m = ap (λ (y : ℕ). bit (2 ^ 64 - 1 - y) j) e ∙ window_bit false ws (length ws) (end - 64) j m (omega arith)

-- ---- by whole values

module _ (u : ℕ) (T : List ℕ) (r : rising u 0 T ≡ true) where
  climbs : (d j : ℕ) → j + d < length T → get_or T j 0 ≤ get_or T (j + d) 0
  climbs zero j h = le_of_eq (ap (λ (k : ℕ). get_or T k 0) (sym (add-zero j)))
  climbs (suc d) j h =
      let e : j + suc d ≡ j + d + 1 = omega arith in
      le_trans (climbs d j (omega arith)) (subst⁻¹ (λ (k : ℕ). get_or T (j + d) 0 ≤ get_or T k 0) e (rising_le u T (j + d) r (omega arith)))

  pub not_falling : (j k : ℕ) → j ≤ k → k < length T → get_or T j 0 ≤ get_or T k 0
  not_falling j k h l = let e : j + (k - j) ≡ k = omega arith in subst (λ (n : ℕ). get_or T j 0 ≤ get_or T n 0) e (climbs (k - j) j (omega arith))

module _ (i : List ℕ) (ok : accepted i ≡ true) (p : Parts) (ep : p ≡ parts_of i) (v a b : ℕ) (g : Range p a b) where
  pub in_list : b ≤ length (times i)
  in_list = subst (λ (y : ℕ). b ≤ y) (selecting.pushed_is i ok p ep) g.upto

  -- no sum of two numbers of values leaves a word
  pub few : b ≤ 2 ^ 32
  few = let f = images.is_fit i ok in omega (arith, in_list, f.few, f.most)

  pub range_ends : ScanStart (times i) a b v a
  range_ends = record { from = le_refl a; upto = g.some; less = λ j h m. omega arith }

  -- the value with the number k is below v, and so are those before
  pub goes_right : (k r : ℕ) → a ≤ k → k < b → get_or (times i) k 0 < v → ScanStart (times i) k b v r → ScanStart (times i) a b v r
  goes_right k r h kb l s = record { from = omega (arith, s.from); upto = s.upto; less = λ j m n. go j m (dec_lt j k) }
    where
      go : (j : ℕ) → j < r → Dec (j < k) → get_or (times i) j 0 < v
      go j m (yes q) = lt_of_le_of_lt (not_falling _ (times i) (images.is_fit i ok).rises j k (omega arith) (omega (arith, in_list))) l
      go j m (no q) = s.less j m (omega (arith, lt_of_not-le q))

  pub goes_left : (k r : ℕ) → k < b → ScanStart (times i) a (k + 1) v r → ScanStart (times i) a b v r
  goes_left k r kb s = record { from = s.from; upto = omega (arith, s.upto); less = s.less }

  -- the rest of a section, from a value below v on
  pub section_right : (s : Section) (k r x : ℕ) → ScanSection i p a b v s → s.number ≤ k → k < s.end → get_or (times i) k 0 < v → ScanStart (times i) k s.end v r → OneAt i p r x → ScanSection i p a b v (record { number = r; place = x; end = s.end })
  section_right s k r x t h l m n o = record {
    start = goes_right k r (omega (arith, t.start.from)) (omega (arith, t.upto)) m (record { from = n.from; upto = omega (arith, n.upto, t.upto); less = n.less });
    at = o;
    some = n.upto;
    upto = t.upto;
    above = t.above;
  }

  -- fewer zeros are lesser high bits, and those a lesser value
  pub from_high : (s : Section) → HighSection (bit_over true (high_part i p)) p.high_len (v / 2 ^ p.low_len) a b s → ScanSection i p a b v s
  from_high s t = record {
    start = record { from = t.start.from; upto = t.start.upto; less = λ j m n. less j m n };
    at = record { ok = ok; parts = ep; below = omega (arith, t.start.upto, g.upto); place = t.at };
    some = t.some;
    upto = t.upto;
    above = λ j m n. above j m n;
  }
    where
      -- the zeros before its one are the high bits of a value
      zeros : (j : ℕ) → j < b → (x : ℕ) × (select (bit_over true (high_part i p)) p.high_len j ≡ Some x) × (x ≡ j + get_or (times i) j 0 / 2 ^ p.low_len)
      zeros j m =
          let q : j < p.num_pushed = omega (arith, g.upto) in
          let w = selecting.place_is i ok p ep j q in
          let o = selecting.at_or_past i ok p ep j q _ w in
          let d = selecting.upper i ok p ep j q _ w ∙ ap (λ (l : ℕ). get_or (times i) j 0 / 2 ^ l) (sym (selecting.low_len_is i ok p ep)) in
          (_, w, omega (arith, o, d))

      less : (j : ℕ) → j < s.number → a ≤ j → get_or (times i) j 0 < v
      less j m n =
          let z = zeros j (omega (arith, t.start.upto)) in
          let x = t.start.less j _ m n z.1 in
          lt_of_not-le (λ (w : v ≤ get_or (times i) j 0). omega (arith, x, z.2, shr_mono p.low_len w))

      above : (j : ℕ) → s.end ≤ j → j < b → v < get_or (times i) j 0
      above j m n =
          let z = zeros j n in
          let x = t.more j _ m n z.1 in
          lt_of_not-le (λ (w : get_or (times i) j 0 ≤ v). omega (arith, x, z.2, shr_mono p.low_len w))
