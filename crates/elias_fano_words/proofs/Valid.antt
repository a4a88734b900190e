-- The high words of times in order are a bit vector of the high length: no padding is set. Assumes nothing.
use mathlib.Core.Path.{◌≡◌, sym, ap, ◌∙◌}
use mathlib.Core.List.{List}
use mathlib.Core.Bool.{true, false, not}
use Prim.Native.Nat.{ℕ, ◌+◌, ◌*◌, ◌/◌, ◌%◌, ◌^◌, ◌≤◌, ◌<◌}
use native.Mathlib.Nat.{le_of_eq, lt_of_not-le, lt_of_le_of_lt, lt_of_lt_of_le, div-le_self}
use native.Mathlib.Decide.{dec_lt, ℕ_discrete}
use native.Mathlib.Omega.{arith}
use borrow.Author.Tests.{eq-eqb}
use lib.ListN.{length, get_or}
use lib.Pow.{pow_mono}
use Rattle.broadword.specs.Bits.{bit}
use Rattle.broadword.proofs.Count.{bit_shift, bit-above}
use Rattle.bit_words.specs.Vector.{words_for, invalid}
use Rattle.bit_words.proofs.Last.{no_bits}
use Rattle.bit_words.proofs.Overwrite.{fit-number_words}
use Rattle.bit_words.proofs.Runs.{Fit, bit_at-word}
use Rattle.bit_words.proofs.Valid as valid
use Rattle.elias_fano_words.specs.Sizes.{low_len, high_len}
use Rattle.elias_fano_words.specs.Image.{high_from, high_words}
use Rattle.elias_fano_words.specs.Times.{rising}
use Rattle.elias_fano_words.specs.Checks.{Clear}
use Rattle.elias_fano_words.proofs.Decode.{length_high, clear_high}

pub fit_high : (u n : ℕ) (T : List ℕ) → Fit (high_words u n T)
unfolding high_words
fit_high u n T = fit-number_words (words_for (high_len u n)) (high_from (low_len u n) 0 T)

-- words without a bit from the place len on have no padding
valid_clear : (ws : List ℕ) (len : ℕ) → Fit ws → words_for len ≤ length ws → Clear ws len → invalid ws len ≡ false
valid_clear ws len fit room clear = go (ℕ_discrete (len % 64) 0)
  where
    w : ℕ
    w = get_or ws (len / 64) 0

    high : (j : ℕ) → Dec (len % 64 + j < 64) → bit w (len % 64 + j) ≡ 0
    high j (yes h) = sym (bit_at-word ws (len / 64) (len % 64 + j) h) ∙ clear (len / 64 * 64 + (len % 64 + j)) (omega arith)
    high j (no g) = bit-above w (len % 64 + j) (lt_of_lt_of_le (fit (len / 64)) (pow_mono {i = 64} (omega (arith, lt_of_not-le g))))

    upper : w / 2 ^ (len % 64) ≡ 0
    upper = no_bits (w / 2 ^ (len % 64)) (lt_of_le_of_lt (div-le_self w (2 ^ (len % 64))) (fit (len / 64))) (λ j _. bit_shift w (len % 64) j ∙ high j (dec_lt (len % 64 + j) 64))

    go : Dec (len % 64 ≡ 0) → invalid ws len ≡ false
    go (yes e) = valid.whole ws len room e
    go (no n) = valid.part ws len room n ∙ ap not (eq-eqb _ _ upper)

pub valid_high : (u n : ℕ) (T : List ℕ) → rising u 0 T ≡ true → length T ≤ n → invalid (high_words u n T) (high_len u n) ≡ false
valid_high u n T r few =
    valid_clear (high_words u n T) (high_len u n) (fit_high u n T) (le_of_eq (sym (length_high u n T))) (clear_high u n T r few)
