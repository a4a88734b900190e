-- `bit_words::low_bits` meets its contract.
-- Assumes nothing.
use mathlib.Core.Path.{sym, ap, ◌∙◌, subst⁻¹}
use Prim.Native.Nat.{ℕ, ◌-◌, ◌%◌, ◌^◌, ◌≤◌}
use native.Mathlib.Nat.{mod-eq_of_lt}
use native.Mathlib.Omega.{arith}
use lib.Bits.{bit_and, and_mask}
use lib.Pow.{pow_pos}
use Rattle.bit_words.proofs.Packed.{one_shl}
use Rattle.bit_words.proofs.low_bits.Goals as goal

pub returns-then-width-eq-WORD_LEN : goal.returns-then-width-eq-WORD_LEN
returns-then-width-eq-WORD_LEN c =
    sym (ap (λ (w : ℕ). c.args.x % 2 ^ w) c.if-width-eq-WORD_LEN.true ∙ mod-eq_of_lt {n = c.args.x} {m = 2 ^ 64} c.ranges.x.fits)

pub overflow_sub-result : goal.overflow_sub-result
overflow_sub-result c = subst⁻¹ (λ (y : ℕ). 1 ≤ y) (one_shl c.args.width (omega arith)) (pow_pos c.args.width)

pub returns : goal.returns
returns c =
    ap (λ (y : ℕ). bit_and c.args.x (y - 1)) (one_shl c.args.width (omega arith)) ∙ and_mask c.args.x c.args.width
