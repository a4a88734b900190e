-- Writing a vector, case by case. Assumes nothing.
use mathlib.Core.Path.{◌≡◌}
use mathlib.Core.List.{List}
use mathlib.Core.Bool.{Bool, true, false}
use Prim.Native.Nat.{ℕ}
use borrow.Author.Tests.{eq-eqb, ne_eqb}
use lib.ListN.{length}
use Rattle.errors.specs.Answer.{value, refused, leaves, passing}
use Rattle.bit_words.specs.Vector.{invalid}
use Rattle.elias_fano_from_bits.specs.FromBits.{ones_of, ones_test, bits_written}
use Rattle.sarray.specs.Build.{sparse_test, sparse_from_bits}

module _ (ws : List ℕ) (len : ℕ) (c : Bool) (w : List ℕ) where
  pub sparse_13 : invalid ws len ≡ true → leaves (refused 13) w ≡ sparse_from_bits ws len c w
  unfolding sparse_from_bits sparse_test
  sparse_13 e = simp e

  module _ (ok : invalid ws len ≡ false) where
    pub sparse-zeros : length (ones_of ws len) ≡ 0 → leaves (value 0) w ≡ sparse_from_bits ws len c w
    unfolding sparse_from_bits sparse_test
    sparse-zeros e = simp (ok, eq-eqb (length (ones_of ws len)) 0 e)

    pub sparse-ones : (length (ones_of ws len) ≡ 0 → ⊥) → passing (ones_test ws len c (length w)) w (bits_written ws len c w) ≡ sparse_from_bits ws len c w
    unfolding sparse_from_bits sparse_test
    sparse-ones e = simp (ok, ne_eqb (length (ones_of ws len)) 0 e)
