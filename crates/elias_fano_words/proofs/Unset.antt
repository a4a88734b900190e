-- Whether words have no bit from a place on, by the last word that is not 0. Assumes nothing.
use mathlib.Core.Path.{◌≡◌, sym, ap, ◌∙◌}
use mathlib.Core.List.{List}
use Prim.Native.Nat.{ℕ, ◌+◌, ◌-◌, ◌*◌, ◌/◌, ◌%◌, ◌^◌, ◌≤◌, ◌<◌}
use native.Mathlib.Nat.{lt_of_not-le, lt_of_lt_of_le, lt_of_le_of_lt, div-le_self}
use native.Mathlib.Decide.{dec_le, dec_lt}
use native.Mathlib.Omega.{arith}
use borrow.Author.Tests.{eqb-true, eqb-false}
use lib.Dec.{eqb}
use lib.ListN.{length, get_or}
use lib.Pow.{pow_pos, pow_mono}
use Rattle.broadword.specs.Bits.{bit}
use Rattle.broadword.proofs.Count.{bit-above, bit_shift}
use Rattle.bit_words.specs.Vector.{bit_at}
use Rattle.bit_words.specs.Inner.{Ending}
use Rattle.bit_words.proofs.Last.{no_bits}
use Rattle.bit_words.proofs.Runs.{Fit, bit_at-word, get_d_past}
use Rattle.darray.specs.Pending.{Decides}
use Rattle.elias_fano_words.specs.Checks.{Clear}

-- a bit of a word that is 0
pub bit_zero : (w j : ℕ) → w ≡ 0 → bit w j ≡ 0
bit_zero w j e = ap (λ (x : ℕ). bit x j) e ∙ bit-above 0 j (pow_pos j)

module _ (ws : List ℕ) where
  -- a bit by its word
  pub by_word : (i : ℕ) → bit_at ws i ≡ bit (get_or ws (i / 64) 0) (i % 64)
  by_word i = let e : i ≡ i / 64 * 64 + i % 64 = omega arith in ap (bit_at ws) e ∙ bit_at-word ws (i / 64) (i % 64) (omega arith)

  -- past the last word
  pub bit_past : (i : ℕ) → length ws * 64 ≤ i → bit_at ws i ≡ 0
  bit_past i h = by_word i ∙ bit_zero (get_or ws (i / 64) 0) (i % 64) (get_d_past ws (i / 64) (omega arith))

module _ (ws : List ℕ) (fit : Fit ws) (pos used : ℕ) (end : Ending ws (length ws) used) where
  zero_from : (i : ℕ) → used * 64 ≤ i → bit_at ws i ≡ 0
  zero_from i h = by (dec_lt (i / 64) (length ws))
    where
      by : Dec (i / 64 < length ws) → bit_at ws i ≡ 0
      by (yes l) = by_word ws i ∙ bit_zero (get_or ws (i / 64) 0) (i % 64) (end.zeros (i / 64) (omega arith) l)
      by (no g) = bit_past ws i (omega (arith, lt_of_not-le g))

  -- the last word that is not 0 stands before the place
  pub clear-past : used ≤ pos / 64 → Clear ws pos
  clear-past h i l = zero_from i (omega arith)

  -- or after its word
  pub not_clear : pos / 64 + 1 < used → Clear ws pos → ⊥
  not_clear h z =
      let i : ℕ = used - 1 in
      end.some i (omega arith) (no_bits (get_or ws i 0) (fit i) (λ j l. sym (bit_at-word ws i j l) ∙ z (i * 64 + j) (omega arith)))

  -- or is its word
  module _ (e : used ≡ pos / 64 + 1) where
    abbrev w : ℕ
    w = get_or ws (pos / 64) 0

    abbrev s : ℕ
    s = pos % 64

    upper_zero : Clear ws pos → w / 2 ^ s ≡ 0
    upper_zero z = no_bits (w / 2 ^ s) (lt_of_le_of_lt (div-le_self w (2 ^ s)) (fit (pos / 64))) (λ j l. bit_shift w s j ∙ by j (dec_lt (s + j) 64))
      where
        by : (j : ℕ) → Dec (s + j < 64) → bit w (s + j) ≡ 0
        by j (yes l) = sym (bit_at-word ws (pos / 64) (s + j) l) ∙ z (pos / 64 * 64 + (s + j)) (omega arith)
        by j (no g) = bit-above w (s + j) (lt_of_lt_of_le (fit (pos / 64)) (pow_mono {i = 64} (omega (arith, lt_of_not-le g))))

    clear_upper : w / 2 ^ s ≡ 0 → Clear ws pos
    clear_upper z i l = by (dec_le (used * 64) i)
      where
        by : Dec (used * 64 ≤ i) → bit_at ws i ≡ 0
        by (yes h) = zero_from i h
        by (no g) =
            let d : ℕ = i - pos in
            let q : i ≡ pos / 64 * 64 + (s + d) = omega arith in
            ap (bit_at ws) q ∙ bit_at-word ws (pos / 64) (s + d) (omega (arith, lt_of_not-le g)) ∙ sym (bit_shift w s d) ∙ bit_zero (w / 2 ^ s) d z

    pub clear_part : Decides (eqb (w / 2 ^ s) 0) (Clear ws pos)
    clear_part = record { yes = λ t. clear_upper (eqb-true (w / 2 ^ s) 0 t); no = λ t z. eqb-false (w / 2 ^ s) 0 t (upper_zero z) }
