-- The ones next to a place of the high bits that k ones stand before: that of the value with the number k - 1, and that of the value with the
-- number k. Assumes nothing.
use Rattle.std.specs.Prelude.{Some}
use mathlib.Core.Path.{◌≡◌, refl, sym, ap, ◌∙◌}
use mathlib.Core.List.{List}
use mathlib.Core.Bool.{true}
use Prim.Native.Nat.{ℕ, suc, ◌+◌, ◌-◌, ◌*◌, ◌≤◌, ◌<◌}
use native.Mathlib.Nat.{lt_of_not-le, lt_of_lt_of_le, le_dest}
use native.Mathlib.Numerals.{add-one}
use native.Mathlib.Omega.{arith}
use lib.ListN.{length}
use Rattle.broadword.specs.Bits.{count}
use Rattle.broadword.specs.Places.{last, select}
use Rattle.broadword.proofs.Count.{count_mono, count_zero, count_add}
use Rattle.broadword.proofs.Find.{last_is, select_at, selected}
use Rattle.bit_words.specs.Inner.{Findable}
use Rattle.bit_words.specs.Vector.{bit_at, bit_over, words_for}
use Rattle.bit_words.proofs.Last.{not_one}
use Rattle.bit_words.proofs.Runs.{bit_at_le, bit_over_le, narrow_in}
use Rattle.elias_fano_words.proofs.Bitwise.{count_suc}
use Rattle.elias_fano.specs.declared.image.Parts.{Parts}
use Rattle.elias_fano.specs.Opening.{OneAt, high_part}
use Rattle.elias_fano.proofs.Accepting.{found}
use Rattle.elias_fano.proofs.Images as images
use Rattle.elias_fano.proofs.Selecting as selecting
use Rattle.elias_fano.proofs.Standing as standing
use Rattle.elias_fano_queries.specs.Demands.{Behind}
use Rattle.elias_fano_queries.proofs.Opened as opened

-- ---- the last one before a place

module _ (f : ℕ → ℕ) (bits : (j : ℕ) → f j ≤ 1) (x k : ℕ) (e : count f x ≡ k) where
  last-number : (y : ℕ) → last f x ≡ Some y → count f y + 1 ≡ k
  last-number y ey =
      let r = last_is f x y ey in
      let d = le_dest r.within in
      let s : x ≡ suc y + d.0 = omega (arith, d.1) in
      let z : count (λ j. f (suc y + j)) d.0 ≡ 0 = count_zero (λ j. f (suc y + j)) d.0 (λ j g. not_one (f (suc y + j)) (bits (suc y + j)) (r.after (suc y + j) (omega arith) (omega arith))) in
      let a = ap (count f) s ∙ count_add f (suc y) d.0 in
      let b = count_suc f y in
      let o = r.one in
      omega arith

-- ---- the place after a one

pub behind_next : (i : List ℕ) (p : Parts) (k x : ℕ) → 0 < k → OneAt i p (k - 1) x → Behind i p k (x + 1)
unfolding bit_over
behind_next i p k x h o =
    let s = selected (bit_over true (high_part i p)) p.high_len (k - 1) x o.place in
    let b : count (bit_at (high_part i p)) x ≡ k - 1 = s.before in
    let e : bit_at (high_part i p) x ≡ 1 = s.one in
    let n = count_suc (bit_at (high_part i p)) x in
    let a = ap (count (bit_at (high_part i p))) (add-one x) in
    record { opened = record { ok = o.ok; parts = o.parts }; before = omega arith; upto = omega (arith, s.within) }

-- ---- of an opened image

module _ (i : List ℕ) (p : Parts) (k x : ℕ) (b : Behind i p k x) where
  abbrev W : List ℕ
  W = high_part i p

  over_one : bit_over true W ≡ bit_at W
  unfolding bit_over
  over_one = refl

  total : count (bit_at W) p.high_len ≡ p.num_pushed
  total =
      let o = b.opened in
      ap (λ (f : ℕ → ℕ). count f p.high_len) (sym over_one)
      ∙ sym (standing.ones-count i p o.parts (found i o.ok).head (images.is_fit i o.ok).small (found i o.ok).bits)

  pub before-room : 0 < k → (x ≤ length W * 64) × (0 < count (bit_at W) x)
  before-room h =
      let o = b.opened in
      let a = opened.part_length i o.ok p o.parts in
      let c = opened.part_room i o.ok p o.parts in
      let d = b.before in
      let e = b.upto in
      (omega arith, omega arith)

  pub before_is : 0 < k → (y : ℕ) → last (bit_at W) x ≡ Some y → OneAt i p (k - 1) y
  before_is h y ey =
      let o = b.opened in
      let w = last_is (bit_at W) x y ey in
      let n = last-number (bit_at W) (bit_at_le W) x k b.before y ey in
      let m = count_mono (bit_at W) x p.high_len b.upto in
      let t = total in
      let c = b.before in
      record {
        ok = o.ok;
        parts = o.parts;
        below = omega arith;
        place = ap (λ (f : ℕ → ℕ). select f p.high_len (k - 1)) over_one ∙ select_at (bit_at W) p.high_len (k - 1) y (lt_of_lt_of_le w.within b.upto) w.one (omega arith);
      }

  module _ (h : k < p.num_pushed) where
    here : x < p.high_len
    here = lt_of_not-le (λ (g : p.high_len ≤ x). let a = count_mono (bit_at W) p.high_len x g in let c = total in let d = b.before in omega arith)

    words_are : p.low_at - 6 ≡ words_for p.high_len
    words_are =
        let o = b.opened in
        let a = standing.low_is i p o.parts (found i o.ok).head in
        let c = selecting.high_len_is i o.ok p o.parts in
        ap (λ (y : ℕ). y - 6) a ∙ (let d : (y : ℕ) → 6 + y - 6 ≡ y = λ y. omega arith in d _) ∙ ap words_for (sym c)

    pub findable : Findable W (p.low_at - 6) x
    findable =
        let o = b.opened in
        let a = opened.part_length i o.ok p o.parts in
        let c = opened.part_room i o.ok p o.parts in
        let d = opened.high_small i o.ok p o.parts in
        let e = words_are in
        let g = here in
        record { start = omega arith; room = omega arith; few = omega arith }

    over_before : count (bit_over true W) x ≡ k
    over_before = ap (λ (f : ℕ → ℕ). count f x) over_one ∙ b.before

    pub enough : count (bit_over true W) x < count (bit_over true W) ((p.low_at - 6) * 64)
    enough =
        let o = b.opened in
        let c = opened.part_room i o.ok p o.parts in
        let m = count_mono (bit_over true W) p.high_len ((p.low_at - 6) * 64) c in
        let t = ap (λ (f : ℕ → ℕ). count f p.high_len) over_one ∙ total in
        let a = over_before in
        omega arith

    pub from_is : (y : ℕ) → select (bit_over true W) ((p.low_at - 6) * 64) (count (bit_over true W) x) ≡ Some y → OneAt i p k y
    from_is y e =
        let o = b.opened in
        let q = selecting.place_is i o.ok p o.parts k h in
        let l = (selected (bit_over true W) p.high_len k _ q).within in
        let c = opened.part_room i o.ok p o.parts in
        record {
          ok = o.ok;
          parts = o.parts;
          below = h;
          place = q ∙ sym (narrow_in (bit_over true W) (bit_over_le true W) p.high_len ((p.low_at - 6) * 64) k _ q (lt_of_lt_of_le l c)) ∙ ap (select (bit_over true W) ((p.low_at - 6) * 64)) (sym over_before) ∙ e;
        }
