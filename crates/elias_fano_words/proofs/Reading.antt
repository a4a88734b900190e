-- The bits from a place on, read from its word and the one after it. Assumes nothing.
use mathlib.Core.Path.{◌≡◌, refl, sym, ap, ap₂, ◌∙◌, subst⁻¹}
use mathlib.Core.List.{List}
use mathlib.Core.Bool.{Bool, true, false, not}
use Prim.Native.Nat.{ℕ, suc, ◌+◌, ◌-◌, ◌*◌, ◌/◌, ◌%◌, ◌^◌, ◌≤◌, ◌<◌}
use native.Mathlib.Nat.{le_dest, lt_of_not-le, suc-mul, mod-lt}
use native.Mathlib.Decide.{dec_lt}
use native.Mathlib.Omega.{arith}
use lib.Arith.{digits_mod}
use lib.Bits.{bit_and, bit_or, and_mask}
use lib.Dec.{leb}
use lib.ListN.{length, get_or}
use lib.Pow.{pow_pos, pow_mono, mod-mod-pow}
use Rattle.broadword.specs.Bits.{bit}
use Rattle.broadword.specs.Fields.{flag, word}
use Rattle.broadword.proofs.Count.{bit-mod}
use Rattle.broadword.proofs.Fields.{word_same}
use Rattle.broadword.proofs.Truth.{flag_le}
use Rattle.bit_words.specs.Vector.{bit_at}
use Rattle.bit_words.proofs.Runs.{Fit, bit_at_le, bit_at-word}
use Rattle.bit_words.proofs.Windows.{number_bit, number_bits, two-words, two_shifts, window_or}
use Rattle.bit_words.proofs.Packed.{one_shl}
use Rattle.elias_fano_words.specs.Checks.{Held, low_bits}

-- the low bits of a low part
mod_low : (x k n : ℕ) → n ≤ k → x % 2 ^ k % 2 ^ n ≡ x % 2 ^ n
mod_low x k n h = let d = le_dest h in ap (λ (j : ℕ). x % 2 ^ j % 2 ^ n) (let e : k ≡ d.0 + n = omega (arith, d.1) in e) ∙ mod-mod-pow x d.0 n

module _ (ws : List ℕ) (fit : Fit ws) (pos next : ℕ) (after : pos / 64 + 1 < length ws → next ≡ pos / 64 + 1) where
  abbrev w : ℕ
  w = get_or ws (pos / 64) 0

  abbrev v : ℕ
  v = get_or ws next 0

  abbrev s : ℕ
  s = pos % 64

  -- the bits that the words have are right, whatever was read for the word after the last
  pub bits_from : (n : ℕ) → n ≤ 64 → pos + n ≤ length ws * 64 → bit_or (w / 2 ^ s) (((v * 2) % 2 ^ 64 * 2 ^ (63 - s)) % 2 ^ 64) % 2 ^ n ≡ word 1 (λ i. bit_at ws (pos + i)) n
  bits_from n h l =
      let N : ℕ = v * 2 ^ 64 + w in
      ap (λ (x : ℕ). bit_or (w / 2 ^ s) x % 2 ^ n) (two_shifts v s (omega arith))
      ∙ ap (λ (x : ℕ). x % 2 ^ n) (window_or s (omega arith) v w (fit (pos / 64)))
      ∙ mod_low (N / 2 ^ s) 64 n h ∙ sym (number_bits N s n)
      ∙ word_same 1 (λ i. bit N (s + i)) (λ i. bit_at ws (pos + i)) n (λ i g. by i g (dec_lt (s + i) 64))
    where
      by : (i : ℕ) → i < n → Dec (s + i < 64) → bit (v * 2 ^ 64 + w) (s + i) ≡ bit_at ws (pos + i)
      by i g (yes q) =
          let e : pos / 64 * 64 + (s + i) ≡ pos + i = omega arith in
          sym (bit-mod (v * 2 ^ 64 + w) 64 (s + i) q) ∙ ap (λ (x : ℕ). bit x (s + i)) (digits_mod v {m = 2 ^ 64} {r = w} (fit (pos / 64)))
          ∙ sym (bit_at-word ws (pos / 64) (s + i) q) ∙ ap (bit_at ws) e
      by i g (no q) =
          let e : pos / 64 * 64 + (s + i) ≡ pos + i = omega arith in
          let f : next ≡ pos / 64 + 1 = after (omega (arith, lt_of_not-le q)) in
          ap (λ (x : ℕ). bit (get_or ws x 0 * 2 ^ 64 + w) (s + i)) f ∙ sym (two-words ws (pos / 64) (s + i) (fit (pos / 64)) (omega arith)) ∙ ap (bit_at ws) e

-- ---- the low bits of two times, one after the other

-- the low bits of v are those of the words from the place pos on
abbrev From : List ℕ → ℕ → ℕ → Type 0
From ws pos v = (n : ℕ) → n ≤ 64 → pos + n ≤ length ws * 64 → v % 2 ^ n ≡ word 1 (λ i. bit_at ws (pos + i)) n

-- no low bits
pub low_none : (low : List ℕ) (l pos : ℕ) → l ≡ 0 → word 1 (λ i. bit_at low (pos + i)) l ≡ 0
unfolding word
low_none low l pos z = ap (word 1 (λ i. bit_at low (pos + i))) z

-- l ones, as a program makes them
abbrev mask : ℕ → ℕ
mask l = (1 * 2 ^ l) % 2 ^ 64 - 1

pub masked : (l x : ℕ) → l < 64 → bit_and x (mask l) ≡ x % 2 ^ l
masked l x h = ap (λ (p : ℕ). bit_and x (p - 1)) (one_shl l h) ∙ and_mask x l

pub mask_fits : (l : ℕ) → l < 64 → 1 ≤ (1 * 2 ^ l) % 2 ^ 64
mask_fits l h = subst⁻¹ (λ (x : ℕ). 1 ≤ x) (one_shl l h) (pow_pos l)

pub low_masked : (low : List ℕ) (l pos v : ℕ) → l < 64 → pos + l ≤ length low * 64 → From low pos v → bit_and v (mask l) ≡ word 1 (λ i. bit_at low (pos + i)) l
low_masked low l pos v few h g = masked l v few ∙ g l (omega arith) h

module _ (low : List ℕ) (l k : ℕ) (few : l < 64) (held : Held l low (k + 2)) where
  next_at : (i : ℕ) → k * l + l + i ≡ suc k * l + i
  next_at i = ap (λ (x : ℕ). x + i) (sym (suc-mul k l))

  first_low : (v : ℕ) → From low (k * l) v → bit_and v (mask l) ≡ low_bits l low k
  first_low v = low_masked low l (k * l) v few (omega (arith, held.room))

  next_low : (v : ℕ) → From low (k * l + l) v → bit_and v (mask l) ≡ low_bits l low (suc k)
  next_low v h =
      masked l v few ∙ h l (omega arith) (omega (arith, held.room))
      ∙ word_same 1 (λ i. bit_at low (k * l + l + i)) (λ i. bit_at low (suc k * l + i)) l (λ i _. ap (bit_at low) (next_at i))

  second_low : (v : ℕ) → l ≤ 32 → From low (k * l) v → bit_and (v / 2 ^ l) (mask l) ≡ low_bits l low (suc k)
  second_low v s h =
      let f : ℕ → ℕ = λ i. bit_at low (k * l + i) in
      let e : v % 2 ^ (l + l) ≡ word 1 f (l + l) = h (l + l) (omega arith) (omega (arith, held.room)) in
      masked l (v / 2 ^ l) few ∙ sym (number_bits v l l)
      ∙ word_same 1 (λ i. bit v (l + i)) (λ i. bit_at low (suc k * l + i)) l (λ i g.
      let q : k * l + (l + i) ≡ k * l + l + i = omega arith in
      sym (bit-mod v (l + l) (l + i) (omega arith)) ∙ ap (λ (x : ℕ). bit x (l + i)) e
      ∙ number_bit f (l + l) (l + i) (λ j. bit_at_le low (k * l + j)) (omega arith) ∙ ap (bit_at low) (q ∙ next_at i))

  -- no low bits
  pub rises_none : (b : Bool) → l ≡ 0 → not b ≡ leb (low_bits l low k + flag b) (low_bits l low (suc k))
  rises_none b z = by b ∙ sym (ap₂ (λ (x y : ℕ). leb (x + flag b) y) (low_none low l (k * l) z) (low_none low l (suc k * l) z))
    where
      by : (b : Bool) → not b ≡ leb (0 + flag b) 0
      by true = refl
      by false = refl

  -- 1 more fits a word
  pub more_fits : (v : ℕ) (b : Bool) → bit_and v (mask l) + flag b < 2 ^ 64
  more_fits v b =
      let e = masked l v few in
      let m = mod-lt v (pow_pos l) in
      let p : 2 ^ l ≤ 2 ^ 63 = pow_mono (let q : l ≤ 63 = omega arith in q) in
      omega (arith, flag_le b)

  -- compared with d more
  pub rises-one : (d v : ℕ) → l ≤ 32 → From low (k * l) v → leb (bit_and v (mask l) + d) (bit_and (v / 2 ^ l) (mask l)) ≡ leb (low_bits l low k + d) (low_bits l low (suc k))
  rises-one d v s h = ap₂ (λ (a b : ℕ). leb (a + d) b) (first_low v h) (second_low v s h)

  pub rises-two : (d v x : ℕ) → From low (k * l) v → From low (k * l + l) x → leb (bit_and v (mask l) + d) (bit_and x (mask l)) ≡ leb (low_bits l low k + d) (low_bits l low (suc k))
  rises-two d v x h g = ap₂ (λ (a b : ℕ). leb (a + d) b) (first_low v h) (next_low x g)
