-- How long an image and its indexes are. Assumes nothing.
use mathlib.Core.Path.{◌≡◌, refl, sym, ap, ◌∙◌}
use mathlib.Core.List.{List, [], ◌++◌}
use mathlib.Core.Bool.{Bool, true, false, cond}
use Prim.Native.Nat.{ℕ, zero, suc, ◌+◌, ◌-◌, ◌*◌, ◌≤◌}
use native.Mathlib.Omega.{arith}
use lib.ListN.{length, length-append}
use Rattle.broadword.specs.Bits.{count}
use Rattle.broadword.proofs.Count.{count_same}
use Rattle.bit_words.specs.Vector.{bit_at, bit_over, words_for}
use Rattle.bit_words.proofs.Overwrite.{length-number_words}
use Rattle.bit_words.proofs.Runs.{bit_at_le, bit_over_le}
use Rattle.darray_positions.specs.Index.{blocks, lanes, lane_words, index_words}
use Rattle.darray_positions.proofs.Index.{length-overflow, length_index}
use Rattle.darray_positions.proofs.Positions.{length-places}
use Rattle.elias_fano_words.specs.Sizes.{low_len, high_len, index_len, image_len}
use Rattle.elias_fano_words.specs.Image.{low_number, spilled, high_words, low_words, high_positions, image}
use Rattle.elias_fano_words.specs.Times.{rising}
use Rattle.elias_fano_words.proofs.Decode.{count_high, length_high}

-- ---- an index

pub index_length : (P : List ℕ) → length (index_words P) ≡ index_len (length P) (spilled P)
unfolding blocks lanes lane_words
index_length P = length_index P ∙ ap (λ (x : ℕ). blocks P + lane_words P + x) (sym (length-overflow P (blocks P)))

-- ones and zeros are all bits
pub all_bits : (ws : List ℕ) (n : ℕ) → count (bit_over true ws) n + count (bit_over false ws) n ≡ n
unfolding count bit_over
all_bits ws zero = refl
all_bits ws (suc n) = let ih = all_bits ws n in let h = bit_at_le ws n in omega arith

pub ones_are : (ws : List ℕ) (n : ℕ) → count (bit_over true ws) n ≡ count (bit_at ws) n
unfolding bit_over
ones_are ws n = count_same (bit_over true ws) (bit_at ws) n (λ i _. refl)

module _ (u n : ℕ) (T : List ℕ) (r : rising u 0 T ≡ true) (few : length T ≤ n) where
  pub ones_many : length (high_positions u n true T) ≡ length T
  ones_many = length-places (bit_over true (high_words u n T)) (bit_over_le true (high_words u n T)) (high_len u n) ∙ ones_are (high_words u n T) (high_len u n) ∙ count_high u n T r few

  pub zeros_many : length (high_positions u n false T) ≡ high_len u n - length T
  zeros_many =
      let a = length-places (bit_over false (high_words u n T)) (bit_over_le false (high_words u n T)) (high_len u n) in
      let b = all_bits (high_words u n T) (high_len u n) in
      let d = ones_are (high_words u n T) (high_len u n) ∙ count_high u n T r few in
      a ∙ omega arith

  -- ---- the image

  abbrev ones : List ℕ
  ones = high_positions u n true T

  abbrev zeros : List ℕ
  zeros = high_positions u n false T

  length_low : length (low_words u n T) ≡ words_for (length T * low_len u n)
  unfolding low_words
  length_low = length-number_words (words_for (length T * low_len u n)) (low_number (low_len u n) T)

  pub length-ones : length (index_words ones) ≡ index_len (length T) (spilled ones)
  length-ones = index_length ones ∙ ap (λ (k : ℕ). index_len k (spilled ones)) ones_many

  length-zeros : (c : Bool) → length (cond c (index_words zeros) []) ≡ cond c (index_len (high_len u n - length T) (cond c (spilled zeros) 0)) 0
  length-zeros true = index_length zeros ∙ ap (λ (k : ℕ). index_len k (spilled zeros)) zeros_many
  length-zeros false = refl

  pub image-length : (c : Bool) → length (image u n c T) ≡ image_len u n (length T) c (spilled ones) (cond c (spilled zeros) 0)
  unfolding image
  image-length c =
      let Z : List ℕ = cond c (index_words zeros) [] in
      let a = length-append (high_words u n T) (low_words u n T ++ (index_words ones ++ Z)) in
      let b = length-append (low_words u n T) (index_words ones ++ Z) in
      let d = length-append (index_words ones) Z in
      omega (arith, length_high u n T, length_low, length-ones, length-zeros c)
