-- `broadword::select_in_word_within` meets its contract.
-- Assumes nothing.
mod Law
use Rattle.std.specs.Prelude.{Some}
use mathlib.Core.Path.{◌≡◌, sym, ap, ◌∙◌, subst⁻¹}
use Prim.Native.Nat.{ℕ, suc, ◌+◌, ◌-◌, ◌*◌, ◌/◌, ◌%◌, ◌^◌, ◌<◌}
use native.Mathlib.Nat.{le_trans, le_of_eq}
use native.Mathlib.Omega.{arith}
use lib.Bits.{bit_and, mask_lt}
use Rattle.broadword.specs.Bits.{bit, count, ones}
use Rattle.broadword.specs.Fields.{digit, word}
use Rattle.broadword.specs.Places.{select}
use Rattle.broadword.proofs.Fields.{byte_at}
use Rattle.broadword.proofs.select_in_word_within.Answers.Law.{sums_are, k_lt, j, j_lt, no_borrow, place_is, rank_is, rank_le, byte_rank_8, found}
use Rattle.broadword.proofs.select_in_word_within.Goals as goal

-- what holds after the first product, and after the second
module _ (c : goal.After-wrapping_mul-byte_sums) where
  abbrev x : ℕ
  x = c.args.x

  abbrev k : ℕ
  k = c.args.k

  abbrev h : k < ones x 64
  h = c.requires

  abbrev s : ℕ
  s = c.wrapping_mul-byte_sums.result

  sums : s ≡ word 8 (λ i. count (λ i. ones (digit 8 x i) 8) (suc i)) 8
  sums = sums_are x k h c.byte_counts.result s c.byte_counts.ensures c.wrapping_mul-byte_sums.ensures

abbrev place : goal.After-wrapping_mul → ℕ
place c = bit_and (c.wrapping_mul.result / 2 ^ 53) 0xffff_ffff_ffff_fff8

placed : (c : goal.After-wrapping_mul) → place c ≡ j (x c.before) (k c.before) (h c.before) * 8
placed c = place_is (x c.before) (k c.before) (h c.before) (s c.before) c.wrapping_mul.result (sums c.before) c.wrapping_mul.ensures

place_lt : (c : goal.After-wrapping_mul) → place c < 64
place_lt c = let l = j_lt (x c.before) (k c.before) (h c.before) in let e = placed c in omega arith

ranked : (c : goal.After-wrapping_mul) → bit_and ((s c.before * 2 ^ 8) % 2 ^ 64 / 2 ^ place c) 0xff ≡ count (λ i. ones (digit 8 (x c.before) i) 8) (j (x c.before) (k c.before) (h c.before))
ranked c = rank_is (x c.before) (k c.before) (h c.before) (s c.before) (place c) (sums c.before) (placed c)

pub overflow_mul-k_step_8 : goal.overflow_mul-k_step_8
overflow_mul-k_step_8 c = let l = k_lt (x c) (k c) (h c) in omega arith

pub overflow_sub-geq_k_step_8 : goal.overflow_sub-geq_k_step_8
overflow_sub-geq_k_step_8 c = no_borrow (x c) (k c) (h c) (s c) (sums c)

pub overflow_shr-byte_rank : goal.overflow_shr-byte_rank
overflow_shr-byte_rank c = place_lt c

pub overflow_sub-byte_rank : goal.overflow_sub-byte_rank
overflow_sub-byte_rank c = le_trans (le_of_eq (ranked c)) (rank_le (x c.before) (k c.before) (h c.before))

pub overflow_shr-x : goal.overflow_shr-x
overflow_shr-x c = place_lt c

pub select_in_byte-requires : goal.select_in_byte-requires
select_in_byte-requires c = (
  mask_lt (x c.before / 2 ^ place c) 8,
  subst⁻¹ (λ (n : ℕ). k c.before - n < 8) (ranked c) (byte_rank_8 (x c.before) (k c.before) (h c.before)),
)

at_last : (c : goal.After-select_in_byte) → (c.select_in_byte.result < 8) × (select (bit (x c.before.before)) 64 (k c.before.before) ≡ Some (j (x c.before.before) (k c.before.before) (h c.before.before) * 8 + c.select_in_byte.result))
at_last c =
    let m = c.before.before in
    found (x m) (k m) (h m) (bit_and (x m / 2 ^ place c.before) 0xff) (k m - bit_and ((s m * 2 ^ 8) % 2 ^ 64 / 2 ^ place c.before) 0xff) c.select_in_byte.result
    (byte_at (x m) (place c.before) (j (x m) (k m) (h m)) (placed c.before)) (ap (λ (n : ℕ). k m - n) (ranked c.before)) c.select_in_byte.ensures

pub overflow_add-result : goal.overflow_add-result
overflow_add-result c = let l = place_lt c.before in omega (arith, (at_last c).0)

pub returns : goal.returns
returns c = (at_last c).1 ∙ sym (ap (λ (n : ℕ). Some (n + c.select_in_byte.result)) (placed c.before))
