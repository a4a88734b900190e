-- The index over the ones of the high bits of a list of times, from the times: where its positions stand, and what its blocks spill. Assumes nothing.
use mathlib.Core.Path.{◌≡◌, sym, ap, subst}
use mathlib.Core.List.{List}
use mathlib.Core.Bool.{true, cond}
use Prim.Native.Nat.{ℕ, ◌+◌, ◌-◌, ◌*◌, ◌≤◌, ◌<◌, min}
use native.Mathlib.Omega.{arith}
use lib.Dec.{leb}
use lib.ListN.{length}
use Rattle.broadword.proofs.Find.{selected}
use Rattle.bit_words.specs.Vector.{bit_at, bit_over}
use Rattle.bit_words.proofs.Runs.{bit_over_le}
use Rattle.darray_positions.specs.Index.{pos, spill}
use Rattle.darray_positions.proofs.Index.{spill_by}
use Rattle.darray_positions.proofs.Positions.{place_is}
use Rattle.elias_fano_words.specs.Image.{high_words, high_positions}
use Rattle.elias_fano_words.specs.Sizes.{low_len, high_len}
use Rattle.elias_fano_words.specs.Times.{rising}
use Rattle.elias_fano_words.proofs.Decode.{select_high, count_high}
use Rattle.elias_fano_words.proofs.Ones.{place_of}
use Rattle.elias_fano_words.proofs.Lengths.{ones_many}

module _ (u n : ℕ) (T : List ℕ) (r : rising u 0 T ≡ true) (few : length T ≤ n) where
  abbrev P : List ℕ
  P = high_positions u n true T

  abbrev W : List ℕ
  W = high_words u n T

  pub many : length P ≡ length T
  many = ones_many u n T r few

  pub pos_high : (k : ℕ) → k < length T → pos P k ≡ place_of (low_len u n) T k
  unfolding pos bit_over
  pos_high k h =
      let s = selected (bit_at W) (high_len u n) k (place_of (low_len u n) T k) (select_high u n T r few k h) in
      place_is (bit_over true W) (bit_over_le true W) (high_len u n) k (place_of (low_len u n) T k) s.one s.before (subst (λ (y : ℕ). k < y) (sym (count_high u n T r few)) h)

  -- the block j, by the places of its first and its last time
  pub spill_high : (j : ℕ) → 1024 * j < length T
      → cond (leb 65536 (place_of (low_len u n) T (1024 * j + (min 1024 (length T - 1024 * j) - 1)) - place_of (low_len u n) T (1024 * j))) (min 1024 (length T - 1024 * j)) 0 ≡ spill P j
  spill_high j h =
      spill_by P j (min 1024 (length T - 1024 * j)) (place_of (low_len u n) T (1024 * j)) (place_of (low_len u n) T (1024 * j + (min 1024 (length T - 1024 * j) - 1)))
      (ap (λ (m : ℕ). min 1024 (m - 1024 * j)) (sym many)) (sym (pos_high (1024 * j) h)) (sym (pos_high (1024 * j + (min 1024 (length T - 1024 * j) - 1)) (omega arith)))
