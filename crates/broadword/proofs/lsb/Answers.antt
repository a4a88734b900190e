-- `broadword::lsb` meets its contract: `x & -x` is the power of two at the lowest one of x (`Lowest.antt`).
-- Assumes nothing.
use Rattle.std.specs.Prelude.{Some}
use mathlib.Core.Path.{◌≡◌, sym, ap, ◌∙◌}
use Prim.Native.Nat.{ℕ, ◌+◌, ◌-◌, ◌*◌, ◌%◌, ◌^◌, ◌<◌, zero, suc}
use native.Mathlib.Nat.{le_dest, le_of_lt, not-suc-le-zero, pos_of_ne-zero}
use lib.Arith.{digits_mod}
use native.Mathlib.Omega.{arith}
use lib.Bits.{bit_and}
use Rattle.broadword.specs.Bits.{bit}
use Rattle.broadword.specs.Places.{select}
use Rattle.broadword.proofs.Find.{select_at}
use Rattle.broadword.proofs.Lowest.{odd_times, short, lowest_one, bit-one, none_below, zero_none}
use Rattle.broadword.proofs.lsb.Goals as goal

-- the product with the largest word wraps to the negative. M is a variable here: `omega` stops at numbers of more than 38 digits
negative_at : (M n d : ℕ) → suc n + d ≡ M → ((M - 1) * suc n) % M ≡ M - suc n
negative_at M n d h =
    let less : M - 1 ≡ n + d = omega arith in
    let rest : M - suc n ≡ d = omega arith in
    let e : (n + d) * suc n ≡ n * (suc n + d) + d = omega arith in
    ap (λ (y : ℕ). (y * suc n) % M) less
    ∙ ap (λ (y : ℕ). y % M) (e ∙ ap (λ (y : ℕ). n * y + d) h)
    ∙ digits_mod n {m = M} {r = d} (omega arith) ∙ sym rest

negative : (x : ℕ) → 0 < x → x < 2 ^ 64 → ((2 ^ 64 - 1) * x) % 2 ^ 64 ≡ 2 ^ 64 - x
negative zero h l = absurd (not-suc-le-zero h)
negative (suc n) h l = let d = le_dest (le_of_lt l) in negative_at (2 ^ 64) n d.0 d.1

places-left : (t k : ℕ) → suc t + k ≡ 64 → suc k + t ≡ 64
places-left t k e = omega arith

-- the place of the lowest one, as the program and as the definition have it
low_place : (x p : ℕ) → (x ≡ 0 → ⊥) → x < 2 ^ 64 → p ≡ ((2 ^ 64 - 1) * x) % 2 ^ 64
    → (t : ℕ) × (t < 64) × (bit_and x p ≡ 2 ^ t) × (select (bit x) 64 0 ≡ Some t)
low_place x p z h e =
    let pos : 0 < x = pos_of_ne-zero z in
    let o = odd_times x pos in
    let t : ℕ = o.0 in
    let l : t < 64 = short x t o.1 o.2 64 h in
    let d = le_dest l in
    let neg : p ≡ 2 ^ 64 - x = e ∙ negative x pos h in
    (t, l, ap (bit_and x) neg ∙ lowest_one x t o.1 o.2 d.0 (places-left t d.0 d.1) h, select_at (bit x) 64 0 t l (bit-one x t o.1 o.2) (none_below x t o.1 o.2))

at_mul : (c : goal.After-wrapping_mul) → (t : ℕ) × (t < 64) × (bit_and c.args.x c.wrapping_mul.result ≡ 2 ^ t) × (select (bit c.args.x) 64 0 ≡ Some t)
at_mul c = low_place c.args.x c.wrapping_mul.result c.if-x-eq0.false c.ranges.x.fits c.wrapping_mul.ensures

pub bit_position-requires : goal.bit_position-requires
bit_position-requires c = let s = at_mul c in (s.0, s.1, s.2)

pub returns-else-x-eq0 : goal.returns-else-x-eq0
returns-else-x-eq0 c = let s = at_mul c.before in ap Some (c.bit_position.ensures s.0 s.1 s.2) ∙ sym s.3

pub returns-then-x-eq0 : goal.returns-then-x-eq0
returns-then-x-eq0 c = sym (zero_none c.args.x c.if-x-eq0.true)
