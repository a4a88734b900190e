-- `broadword::select_in_byte` meets its contract: the index is 256 × r + b, at which the table has its rule. Assumes nothing.
use mathlib.Core.Path.{◌≡◌, ap, ◌∙◌}
use Prim.Native.Nat.{ℕ, ◌+◌, ◌*◌, ◌%◌, ◌^◌, ◌<◌}
use native.Mathlib.Omega.{arith}
use lib.Bits.{bit_or, or_shifted_r}
use lib.ListN.{get_or}
use Rattle.broadword.proofs.ByteTable.{entries, ruled}
use Rattle.broadword.proofs.select_in_byte.Goals as goal

index : (b r : ℕ) → b < 256 → r < 8 → bit_or b ((r * 2 ^ 8) % 2 ^ 64) ≡ b + 256 * r
index b r hb hr =
    let e : (r * 2 ^ 8) % 2 ^ 64 ≡ r * 2 ^ 8 = omega arith in
    let s : r * 2 ^ 8 + b ≡ b + 256 * r = omega arith in
    ap (bit_or b) e ∙ or_shifted_r r 8 b hb ∙ s

pub bounds-b : goal.bounds-b
bounds-b c = omega (arith, index c.args.b c.args.r c.requires.0 c.requires.1)

pub returns : goal.returns
unfolding entries
returns c = ap (λ (i : ℕ). get_or entries i 0) (index c.args.b c.args.r c.requires.0 c.requires.1) ∙ ruled c.args.b c.args.r c.requires.0 c.requires.1
