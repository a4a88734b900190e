-- `bit_words::with_bit` meets its contract.
-- Assumes nothing.
use mathlib.Core.Path.{◌≡◌, ap, ap₂, ◌∙◌}
use Prim.Native.Nat.{ℕ, ◌-◌, ◌*◌, ◌%◌, ◌^◌}
use native.Mathlib.Omega.{arith}
use lib.Bits.{bit_and, bit_or}
use lib.Pow.{shl_exact}
use Rattle.broadword.specs.Fields.{flag}
use Rattle.broadword.proofs.Truth.{flag_lt}
use Rattle.bit_words.proofs.Packed.{one_shl, put}
use Rattle.bit_words.proofs.with_bit.Goals as goal

pub returns : goal.returns
returns c =
    let s = c.args.shift in
    let b = flag c.args.bit in
    let f : (c.bit_word.result * 2 ^ s) % 2 ^ 64 ≡ b * 2 ^ s = ap (λ (y : ℕ). (y * 2 ^ s) % 2 ^ 64) c.bit_word.ensures ∙ shl_exact 1 s 64 (flag_lt c.args.bit) (omega arith) in
    ap₂ (λ (y z : ℕ). bit_or (bit_and c.args.w (2 ^ 64 - 1 - y)) z) (one_shl s c.requires) f ∙ put c.args.w s c.ranges.w.fits c.requires b (flag_lt c.args.bit)
