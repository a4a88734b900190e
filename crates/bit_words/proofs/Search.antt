-- A search from a place on: in the rest of its word, and in the words after it. Assumes nothing.
use Rattle.std.specs.Prelude.{Some, None, Option}
use mathlib.Core.Path.{◌≡◌, sym, ap, ap₂, ◌∙◌, subst}
use mathlib.Core.List.{List}
use mathlib.Core.Bool.{Bool}
use Prim.Native.Nat.{ℕ, ◌+◌, ◌-◌, ◌*◌, ◌/◌, ◌%◌, ◌^◌, ◌≤◌, ◌<◌}
use native.Mathlib.Nat.{le_refl, le_of_lt, le_of_eq, lt_of_le_of_lt, lt_of_not-le, mul-div_cancel, zero-add, mod-eq_of_lt}
use native.Mathlib.Decide.{dec_lt}
use native.Mathlib.Omega.{arith}
use lib.ListN.{get_or, take}
use lib.Pow.{pow_pos, split}
use Rattle.broadword.specs.Bits.{bit, count, ones}
use Rattle.broadword.specs.Fields.{word}
use Rattle.broadword.specs.Places.{select}
use Rattle.broadword.proofs.Count.{bit_le, bit_shift, count_add, count_mono, count_zero, count_same}
use Rattle.broadword.proofs.Find.{selected, select_at, select_none, select_some}
use Rattle.bit_words.specs.Vector.{bit_at, bit_over, word_over}
use Rattle.bit_words.specs.Inner.{Skipped, place_in}
use Rattle.bit_words.proofs.Runs.{Fit, left_lt, word_over_lt, bit_under, bit_over-word, count_word}
use Rattle.bit_words.proofs.Windows.{window_bit}

-- ---- the bits of a word from the place s on

pub rest_low : (w s j : ℕ) → j < s → bit (w / 2 ^ s * 2 ^ s) j ≡ 0
rest_low w s j h = bit_under (w / 2 ^ s) s j h

pub rest_high : (w s d : ℕ) → bit (w / 2 ^ s * 2 ^ s) (s + d) ≡ bit w (s + d)
rest_high w s d =
    sym (bit_shift (w / 2 ^ s * 2 ^ s) s d) ∙ ap (λ (y : ℕ). bit y d) (mul-div_cancel (w / 2 ^ s) (pow_pos s)) ∙ bit_shift w s d

rest_ones : (w s j : ℕ) → s ≤ j → ones w j ≡ ones w s + ones (w / 2 ^ s * 2 ^ s) j
rest_ones w s j h =
    let x : ℕ = w / 2 ^ s * 2 ^ s in
    let d : ℕ = j - s in
    let e : s + d ≡ j = omega arith in
    let tail : ones x j ≡ count (λ i. bit w (s + i)) d =
    ap (count (bit x)) (sym e) ∙ count_add (bit x) s d
    ∙ ap₂ (λ (p q : ℕ). p + q) (count_zero (bit x) s (rest_low w s)) (count_same (λ i. bit x (s + i)) (λ i. bit w (s + i)) d (λ i _. rest_high w s i)) ∙ zero-add (count (λ i. bit w (s + i)) d) in
    ap (count (bit w)) (sym e) ∙ count_add (bit w) s d ∙ ap (λ (y : ℕ). ones w s + y) (sym tail)

module _ (b : Bool) (ws : List ℕ) (fit : Fit ws) (from i : ℕ) (lo : i * 64 ≤ from) (hi : from ≤ i * 64 + 64) where
  abbrev f : ℕ → ℕ
  f = bit_over b ws

  abbrev w : ℕ
  w = word_over b (get_or ws i 0)

  abbrev s : ℕ
  s = from - i * 64

  abbrev x : ℕ
  x = w / 2 ^ s * 2 ^ s

  counted : (j : ℕ) → s ≤ j → j ≤ 64 → count f (i * 64 + j) ≡ count f from + ones x j
  counted j h l =
      let W : ℕ → ℕ = λ i. word_over b (get_or ws i 0) in
      let a = count_word f W (bit_over-word b ws fit) i j l in
      let c = count_word f W (bit_over-word b ws fit) i s (omega arith) in
      let e : count f (i * 64 + s) ≡ count f from = ap (count f) (let d : i * 64 + s ≡ from = omega arith in d) in
      let r = rest_ones w s j h in
      omega arith

  -- all of the rest
  pub rest_over : count f ((i + 1) * 64) ≡ count f from + ones x 64
  rest_over = ap (count f) (let d : (i + 1) * 64 ≡ i * 64 + 64 = omega arith in d) ∙ counted 64 (omega arith) (le_refl 64)

  -- the one of the rest that k ones of it stand before
  pub rest_at : (k t : ℕ) → select (bit x) 64 k ≡ Some t → (t < 64) × (f (i * 64 + t) ≡ 1) × (count f (i * 64 + t) ≡ count f from + k) × (s ≤ t)
  rest_at k t e =
      let r = selected (bit x) 64 k t e in
      let l : t < 64 = r.within in
      let h : s ≤ t = above (dec_lt t s) in
      let d : s + (t - s) ≡ t = omega arith in (
        l,
        bit_over-word b ws fit i t l ∙ ap (bit w) (sym d) ∙ sym (rest_high w s (t - s)) ∙ ap (bit x) d ∙ r.one,
        counted t h (le_of_lt l) ∙ ap (λ (y : ℕ). count f from + y) r.before,
        h,
      )
    where
      above : Dec (t < s) → s ≤ t
      above (yes g) = let z = rest_low w s t g in let o = (selected (bit x) 64 k t e).one in absurd (omega arith)
      above (no g) = omega (arith, lt_of_not-le g)

-- ---- a search

-- a word with more than k ones has the place
select_found : (x k : ℕ) → k < ones x 64 → (t : ℕ) × (select (bit x) 64 k ≡ Some t)
select_found x k h = let s = select_some (bit x) 64 k (bit_le x) h in (s.0, select_at (bit x) 64 k s.0 s.1.within s.1.one s.1.before)

-- what is left of the word of `from`, as the program computes it
pub shifted_rest : (w s : ℕ) → w < 2 ^ 64 → (w / 2 ^ s * 2 ^ s) % 2 ^ 64 ≡ w / 2 ^ s * 2 ^ s
shifted_rest w s h = let d = split w s in mod-eq_of_lt {n = w / 2 ^ s * 2 ^ s} {m = 2 ^ 64} (lt_of_le_of_lt (let l : w / 2 ^ s * 2 ^ s ≤ w = omega arith in l) h)

module _ (b : Bool) (ws : List ℕ) (fit : Fit ws) where
  -- in the word i, whole
  pub word_at : (i left x t : ℕ) → x ≡ word_over b (get_or ws i 0) → select (bit x) 64 left ≡ Some t → (t < 64) × (bit_over b ws (i * 64 + t) ≡ 1) × (count (bit_over b ws) (i * 64 + t) ≡ count (bit_over b ws) (i * 64) + left)
  word_at i left x t ex e =
      let r = selected (bit x) 64 left t e in
      let l = r.within in (
        l,
        bit_over-word b ws fit i t l ∙ ap (λ (y : ℕ). bit y t) (sym ex) ∙ r.one,
        count_word (bit_over b ws) (λ i. word_over b (get_or ws i 0)) (bit_over-word b ws fit) i t (le_of_lt l)
            ∙ ap (λ (y : ℕ). count (bit_over b ws) (i * 64) + y) (ap (λ (y : ℕ). ones y t) (sym ex) ∙ r.before),
      )

  -- the word of `from`, from its place on
  module _ (from x : ℕ) (is : x ≡ word_over b (get_or ws (from / 64) 0) / 2 ^ (from % 64) * 2 ^ (from % 64)) where
    masked : x ≡ word_over b (get_or ws (from / 64) 0) / 2 ^ (from - from / 64 * 64) * 2 ^ (from - from / 64 * 64)
    masked = is ∙ ap (λ (s : ℕ). word_over b (get_or ws (from / 64) 0) / 2 ^ s * 2 ^ s) (let e : from % 64 ≡ from - from / 64 * 64 = omega arith in e)

    pub first_over : count (bit_over b ws) ((from / 64 + 1) * 64) ≡ count (bit_over b ws) from + ones x 64
    first_over = rest_over b ws fit from (from / 64) (omega arith) (omega arith) ∙ ap (λ (y : ℕ). count (bit_over b ws) from + ones y 64) (sym masked)

    pub first_at : (k t : ℕ) → select (bit x) 64 k ≡ Some t → (t < 64) × (bit_over b ws (from / 64 * 64 + t) ≡ 1) × (count (bit_over b ws) (from / 64 * 64 + t) ≡ count (bit_over b ws) from + k)
    first_at k t e =
        let r = rest_at b ws fit from (from / 64) (omega arith) (omega arith) k t (ap (λ (y : ℕ). select (bit y) 64 k) (sym masked) ∙ e) in
        (r.0, r.1, r.2)

    -- the place in it, and that of a word after it
    pub find_first : (used k : ℕ) (a : Option ℕ) → from / 64 < used → k < ones x 64 → a ≡ select (bit x) 64 k → place_in (from / 64) a ≡ select (bit_over b ws) (used * 64) (count (bit_over b ws) from + k)
    find_first used k a u h ea =
        let t = select_found x k h in
        let r = first_at k t.0 t.1 in
        ap (place_in (from / 64)) (ea ∙ t.1) ∙ sym (select_at (bit_over b ws) (used * 64) (count (bit_over b ws) from + k) (from / 64 * 64 + t.0) (let l = r.0 in omega arith) r.1 r.2)

    module _ (used k p i left : ℕ) (ep : p ≡ ones x 64) (h : p ≤ k) (s : Skipped (bit_over b ws) (from / 64 + 1) used (k - p) i left) where
      total : count (bit_over b ws) (i * 64) + left ≡ count (bit_over b ws) from + k
      total = let o = first_over in let e = s.before in omega arith

      pub find_none : i ≡ used → None ≡ select (bit_over b ws) (used * 64) (count (bit_over b ws) from + k)
      find_none e = sym (select_none (bit_over b ws) (used * 64) (count (bit_over b ws) from + k) (let t = total in subst (λ (n : ℕ). count (bit_over b ws) (n * 64) ≤ count (bit_over b ws) from + k) e (omega arith)))

      pub spot_used : count (bit_over b ws) from + k < count (bit_over b ws) (used * 64) → i < used
      spot_used some =
          lt_of_not-le (λ (g : used ≤ i).
          let t = total in
          let m = count_mono (bit_over b ws) (used * 64) (i * 64) (omega arith) in
          omega arith)

      pub find_word : (y : ℕ) (a : Option ℕ) → y ≡ word_over b (get_or ws i 0) → i < used → a ≡ select (bit y) 64 left → place_in i a ≡ select (bit_over b ws) (used * 64) (count (bit_over b ws) from + k)
      find_word y a ey u ea =
          let t = select_found y left (left_lt b ws fit i left y ey (s.here u)) in
          let r = word_at i left y t.0 ey t.1 in
          ap (place_in i) (ea ∙ t.1) ∙ sym (select_at (bit_over b ws) (used * 64) (count (bit_over b ws) from + k) (i * 64 + t.0) (let l = r.0 in omega arith) r.1 (r.2 ∙ total))

  -- the program's shifts give that word
  pub first_is : (from y : ℕ) → y ≡ word_over b (get_or ws (from / 64) 0) → (y / 2 ^ (from % 64) * 2 ^ (from % 64)) % 2 ^ 64 ≡ word_over b (get_or ws (from / 64) 0) / 2 ^ (from % 64) * 2 ^ (from % 64)
  first_is from y e =
      ap (λ (z : ℕ). (z / 2 ^ (from % 64) * 2 ^ (from % 64)) % 2 ^ 64) e
      ∙ shifted_rest (word_over b (get_or ws (from / 64) 0)) (from % 64) (word_over_lt b (get_or ws (from / 64) 0) (fit (from / 64)))

-- ---- a search in the 64 bits from a place on, for a one that there is

module _ (b : Bool) (ws : List ℕ) (used from k x : ℕ) (is : x ≡ word_over b (word 1 (λ i. bit_at (take used ws) (from + i)) 64)) (some : count (bit_over b ws) from + k < count (bit_over b ws) (used * 64)) where
  abbrev F : ℕ → ℕ
  F = bit_over b ws

  ahead_bit : (j : ℕ) → j < 64 → from + j < used * 64 → bit x j ≡ F (from + j)
  ahead_bit j l u = ap (λ (y : ℕ). bit y j) is ∙ window_bit b ws used from j l u

  ahead_count : (j : ℕ) → j ≤ 64 → from + j ≤ used * 64 → count F (from + j) ≡ count F from + ones x j
  ahead_count j l u =
      count_add F from j
      ∙ ap (λ (y : ℕ). count F from + y) (sym (count_same (bit x) (λ i. F (from + i)) j (λ i h. ahead_bit i (omega arith) (omega arith))))

  -- the bits up to the end are not too few
  within : (t : ℕ) → ones x t ≤ k → t ≤ 64 → from ≤ used * 64 → from + t < used * 64
  within t o l u =
      lt_of_not-le (λ (g : used * 64 ≤ from + t).
      let d : from + (used * 64 - from) ≡ used * 64 = omega arith in
      let a = ahead_count (used * 64 - from) (omega arith) (omega arith) in
      let c = ap (count F) d in
      let m = count_mono (bit x) (used * 64 - from) t (omega arith) in
      omega arith)

  pub ahead_at : (t : ℕ) → from ≤ used * 64 → select (bit x) 64 k ≡ Some t → (from + t < used * 64) × (select F (used * 64) (count F from + k) ≡ Some (from + t))
  ahead_at t u e =
      let r = selected (bit x) 64 k t e in
      let w = within t (le_of_eq r.before) (le_of_lt r.within) u in (
        w,
        select_at F (used * 64) (count F from + k) (from + t) w (sym (ahead_bit t r.within w) ∙ r.one)
            (ahead_count t (le_of_lt r.within) (le_of_lt w) ∙ ap (λ (y : ℕ). count F from + y) r.before),
      )

  -- they do not have it, nor has the rest of the place's own word
  pub ahead_past : (p : ℕ) → p ≡ ones x 64 → p ≤ k → from ≤ used * 64 → count F ((from / 64 + 1) * 64) ≤ count F from + k
  ahead_past p ep o u =
      let w = within 64 (omega arith) (le_refl 64) u in
      let a = ahead_count 64 (le_refl 64) (le_of_lt w) in
      let m = count_mono F ((from / 64 + 1) * 64) (from + 64) (omega arith) in
      omega arith
