-- A product with 0x0101.. sums the bytes below each byte. Assumes nothing.
use mathlib.Core.Path.{◌≡◌, ap, ◌∙◌}
use Prim.Native.Nat.{ℕ, suc, ◌+◌, ◌*◌, ◌%◌, ◌^◌, ◌<◌}
use native.Mathlib.Nat.{lt_of_le_of_lt}
use native.Mathlib.Omega.{arith}
use lib.Arith.{digits_mod}
use Rattle.broadword.specs.Bits.{count}
use Rattle.broadword.specs.Fields.{word}
use Rattle.broadword.proofs.Count.{count_mono}
use Rattle.broadword.proofs.Fields.{word_lt}

-- what leaves the word
abbrev over : (ℕ → ℕ) → ℕ
over f = f 1 + f 2 * 0x101 + f 3 * 0x1_0101 + f 4 * 0x101_0101 + f 5 * 0x1_0101_0101 + f 6 * 0x101_0101_0101 + f 7 * 0x1_0101_0101_0101

sums : (f : ℕ → ℕ) → 0x0101_0101_0101_0101 * word 8 f 8 ≡ over f * 2 ^ 64 + word 8 (λ i. count f (suc i)) 8
unfolding word count
sums f = omega arith

pub spread : (f : ℕ → ℕ) → count f 8 < 256 → (0x0101_0101_0101_0101 * word 8 f 8) % 2 ^ 64 ≡ word 8 (λ i. count f (suc i)) 8
spread f h =
    ap (λ (y : ℕ). y % 2 ^ 64) (sums f)
    ∙ digits_mod (over f) {m = 2 ^ 64} {r = word 8 (λ i. count f (suc i)) 8}
    (word_lt 8 (λ i. count f (suc i)) 8 (λ i l. lt_of_le_of_lt (count_mono f (suc i) 8 l) h))
