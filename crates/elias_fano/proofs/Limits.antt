-- No sum or product of a header's numbers leaves a word. Assumes nothing.
use mathlib.Core.Path.{◌≡◌, ap}
use Prim.Native.Nat.{ℕ, ◌+◌, ◌*◌, ◌^◌, ◌≤◌, ◌<◌}
use native.Mathlib.Nat.{mul-le-mul}
use native.Mathlib.Omega.{arith}
use mir.Syntax.{w64}
use mir.Val.{Fits}
use Rattle.bit_words.specs.Vector.{words_for}
use Rattle.elias_fano_words.specs.Sizes.{low_len, high_len, index_len}
use Rattle.elias_fano_words.proofs.Bounds.{low_lt, high_le}

module _ (u n m : ℕ) (hu : u < 2 ^ 64) (some : 0 < n) (most : n ≤ 16777216) (few : m ≤ n) where
  pub high_small : high_len u n ≤ 50331649
  high_small = let h = high_le u n hu some in omega arith

  pub pushed_le : m ≤ high_len u n
  unfolding high_len
  pushed_le = omega arith

  pub product_small : m * low_len u n ≤ 16777216 * 63
  product_small = let a = low_lt u n hu some in let b : low_len u n ≤ 63 = omega arith in let d : m ≤ 16777216 = omega arith in mul-le-mul d b

  pub product_fits : (l : ℕ) → l ≡ low_len u n → Fits w64 (m * l)
  product_fits l e = record { fits = let p = ap (λ (y : ℕ). m * y) e in let q = product_small in omega arith }

  module _ (h p : ℕ) (eh : h ≡ words_for (high_len u n)) (ep : p ≡ words_for (m * low_len u n)) where
    pub ones-fits : Fits w64 (6 + h + p)
    ones-fits = record { fits = let a = high_small in let b = product_small in omega arith }

    pub zeros-fits : (x k : ℕ) → x ≡ index_len m k → k < 2 ^ 62 → Fits w64 (6 + h + p + x)
    zeros-fits x k e l = record { fits = let a = high_small in let b = product_small in omega arith }
