-- Words with one byte in every place. Assumes nothing.
use mathlib.Core.Path.{◌≡◌, refl}
use Prim.Native.Nat.{ℕ, ◌*◌}
use native.Mathlib.Omega.{arith}
use Rattle.broadword.specs.Fields.{word}

pub ks : (k : ℕ) → k * 0x0101_0101_0101_0101 ≡ word 8 (λ i. k) 8
unfolding word
ks k = omega arith

pub msbs : word 8 (λ i. 0x80) 8 ≡ 0x8080_8080_8080_8080
unfolding word
msbs = refl
