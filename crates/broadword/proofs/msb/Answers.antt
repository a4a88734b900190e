-- `broadword::msb` meets its contract: the leading zeros, the highest one and the bits below it make 64.
-- Assumes nothing.
use Rattle.std.specs.Prelude.{Some}
use mathlib.Core.Path.{◌≡◌, sym, ap, ◌∙◌, subst}
use Prim.Native.Nat.{ℕ, suc, ◌+◌, ◌/◌, ◌^◌, ◌≤◌, ◌<◌}
use native.Mathlib.Nat.{pos_of_ne-zero, pow-suc, div-eq_of_lt-le, lt_of_lt_of_le}
use native.Mathlib.Omega.{arith}
use lib.Count.{count_leading_zeros, leading_top}
use lib.Pow.{pow_pos, pow_mono}
use Rattle.broadword.specs.Bits.{bit}
use Rattle.broadword.specs.Places.{last}
use Rattle.broadword.proofs.Count.{bit-above}
use Rattle.broadword.proofs.Find.{last_at, last_none}
use Rattle.broadword.proofs.msb.Goals as goal

pub returns-then-x-eq0 : goal.returns-then-x-eq0
returns-then-x-eq0 c = sym (ap (λ (x : ℕ). last (bit x) 64) c.if-x-eq0.true ∙ last_none (bit 0) 64 (λ i _. bit-above 0 i (pow_pos i)))

-- the place that the leading zeros leave is that of the last one
below-zeros : (x place : ℕ) → 0 < x → x < 2 ^ 64 → count_leading_zeros 64 x + suc place ≡ 64 → last (bit x) 64 ≡ Some place
unfolding bit
below-zeros x place z h e =
    let t = leading_top 64 x z h in
    let same : t.0 ≡ place = omega (arith, t.1) in
    let lo : 2 ^ place ≤ x = subst (λ (j : ℕ). 2 ^ j ≤ x) same t.2 in
    let hi : x < 2 ^ suc place = subst (λ (j : ℕ). x < 2 ^ suc j) same t.3 in
    let p = pow-suc 2 place in
    let one : x / 2 ^ place ≡ 1 = div-eq_of_lt-le (2 ^ place) {m = x} (omega arith) (omega arith) in
    last_at (bit x) 64 place (omega arith) (omega arith) (λ i a _. bit-above x i (lt_of_lt_of_le hi (pow_mono a)))

pub overflow_sub-place : goal.overflow_sub-place
overflow_sub-place c = let t = leading_top 64 c.args.x (pos_of_ne-zero c.if-x-eq0.false) c.ranges.x.fits in omega (arith, t.1)

pub overflow_cast-result : goal.overflow_cast-result
overflow_cast-result c = omega (arith, overflow_sub-place c)

pub returns : goal.returns
returns c = sym (below-zeros c.args.x _ (pos_of_ne-zero c.if-x-eq0.false) c.ranges.x.fits (omega (arith, overflow_sub-place c)))
