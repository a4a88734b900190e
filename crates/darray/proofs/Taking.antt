-- Positions taken one by one from the words. Assumes nothing.
use Rattle.std.specs.Prelude.{Some, None}
use mathlib.Core.Path.{◌≡◌, refl, sym, ap, ◌∙◌}
use mathlib.Core.List.{List}
use mathlib.Core.Bool.{Bool}
use Prim.Native.Nat.{ℕ, suc, ◌+◌, ◌-◌, ◌*◌, ◌/◌, ◌%◌, ◌^◌, ◌≤◌}
use native.Mathlib.Nat.{lt_of_not-le, le_of_eq, div-add-mod'}
use native.Mathlib.Decide.{dec_le}
use native.Mathlib.Omega.{arith}
use lib.ListN.{get_or}
use Rattle.broadword.specs.Bits.{bit, count, ones}
use Rattle.broadword.specs.Places.{select}
use Rattle.broadword.proofs.Count.{bit_le, count_mono}
use Rattle.broadword.proofs.Find.{selected, select_at, select_some}
use Rattle.bit_words.specs.Vector.{bit_over, word_over}
use Rattle.bit_words.proofs.Runs.{Fit, bit_over-word, count_word}
use Rattle.bit_words.proofs.Search.{rest_low, rest_high}
use Rattle.darray_positions.specs.Scan.{Position}
use Rattle.darray.proofs.Clear.{select_from}
use Rattle.darray_positions.proofs.Counts as counts

-- the ones left of the word i, which are those of w, are its positions from the number k on
pub record Left (b : Bool) (ws : List ℕ) (i w k : ℕ) : Type 0 where
  pub low : count (bit_over b ws) (i * 64) ≤ k
  pub high : k ≤ count (bit_over b ws) (i * 64) + ones (word_over b (get_or ws i 0)) 64
  pub ones_left : (j : ℕ) → select (bit w) 64 j ≡ select (bit (word_over b (get_or ws i 0))) 64 (k - count (bit_over b ws) (i * 64) + j)

count_more : (f : ℕ → ℕ) (n : ℕ) → count f (suc n) ≡ count f n + f n
unfolding count
count_more f n = refl

-- where no place is found, no more than k ones stand
few : (w k : ℕ) → select (bit w) 64 k ≡ None → ones w 64 ≤ k
few w k e = by (dec_le (ones w 64) k)
  where
    by : Dec (ones w 64 ≤ k) → ones w 64 ≤ k
    by (yes l) = l
    by (no g) =
        let s = select_some (bit w) 64 k (bit_le w) (lt_of_not-le g) in
        let q = select_at (bit w) 64 k s.0 s.1.within s.1.one s.1.before in
        let z : ◌≡◌ {A = ℕ} 0 1 = cc in
        omega arith

module _ (b : Bool) (ws : List ℕ) (fit : Fit ws) (i w k : ℕ) (l : Left b ws i w k) where
  -- nothing is left: the next word is taken from
  pub left_next : select (bit w) 64 0 ≡ None → Left b ws (i + 1) (word_over b (get_or ws (i + 1) 0)) k
  left_next z =
      let n : ℕ = count (bit_over b ws) (i * 64) in
      let v : ℕ = word_over b (get_or ws i 0) in
      let s : select (bit v) 64 (k - n + 0) ≡ None = sym (l.ones_left 0) ∙ z in
      let e : k ≡ count (bit_over b ws) ((i + 1) * 64) = omega (arith, few v (k - n + 0) s, l.low, l.high, counts.count_up b ws fit n i (ones v 64) refl refl) in
      record {
        low = le_of_eq (sym e);
        high = omega arith;
        ones_left = λ d. let q : k - count (bit_over b ws) ((i + 1) * 64) + d ≡ d = omega arith in ap (select (bit (word_over b (get_or ws (i + 1) 0))) 64) (sym q);
      }

  module _ (s : ℕ) (at : Some s ≡ select (bit w) 64 0) where
    found : Some s ≡ select (bit (word_over b (get_or ws i 0))) 64 (k - count (bit_over b ws) (i * 64))
    found = at ∙ l.ones_left 0 ∙ ap (select (bit (word_over b (get_or ws i 0))) 64) (let q : k - count (bit_over b ws) (i * 64) + 0 ≡ k - count (bit_over b ws) (i * 64) = omega arith in q)

    -- the lowest one that is left is the next position
    pub left_position : Position (bit_over b ws) k (i * 64 + s)
    left_position =
        counts.hit_at b ws fit (record { word = i; before = count (bit_over b ws) (i * 64) }) k (record { counted = refl; to_come = l.low }) s found

    pub left_taken : (v : ℕ) → ((d : ℕ) → select (bit v) 64 d ≡ select (bit w) 64 (d + 1)) → Left b ws i v (k + 1)
    left_taken v h =
        let n : ℕ = count (bit_over b ws) (i * 64) in
        let x : ℕ = word_over b (get_or ws i 0) in
        let r = selected (bit x) 64 (k - n) s (sym found) in
        let m : ones x (suc s) ≤ ones x 64 = count_mono (bit x) (suc s) 64 r.within in
        record {
          low = omega (arith, l.low);
          high = omega (arith, l.low, r.before, r.one, count_more (bit x) s);
          ones_left = λ d. h d ∙ l.ones_left (d + 1) ∙ ap (select (bit x) 64) (let q : k - n + (d + 1) ≡ k + 1 - n + d = omega (arith, l.low) in q);
        }

-- at the word of a position all before it are gone
pub left-start : (b : Bool) (ws : List ℕ) (fit : Fit ws) (k p w : ℕ) → Position (bit_over b ws) k p → w ≡ word_over b (get_or ws (p / 64) 0) / 2 ^ (p % 64) * 2 ^ (p % 64) → Left b ws (p / 64) w k
left-start b ws fit k p w q e =
    let f : ℕ → ℕ = bit_over b ws in
    let x : ℕ = word_over b (get_or ws (p / 64) 0) in
    let s : ℕ = p % 64 in
    let c : count f p ≡ count f (p / 64 * 64) + ones x s =
    ap (count f) (sym (div-add-mod' p 64)) ∙ count_word f (λ i. word_over b (get_or ws i 0)) (bit_over-word b ws fit) (p / 64) s (omega arith) in
    let d : ones x s ≡ k - count f (p / 64 * 64) = omega (arith, q.before) in
    record {
      low = omega (arith, q.before);
      high = omega (arith, q.before, count_mono (bit x) s 64 (omega arith));
      ones_left = λ j.
          ap (λ (y : ℕ). select (bit y) 64 j) e
          ∙ select_from (bit x) (bit (x / 2 ^ s * 2 ^ s)) s (rest_low x s) (λ i. sym (rest_high x s i)) 64 j (omega arith) (bit_le (x / 2 ^ s * 2 ^ s))
          ∙ ap (λ (y : ℕ). select (bit x) 64 (y + j)) d;
    }
