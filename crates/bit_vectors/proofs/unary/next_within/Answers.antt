-- `bit_vectors::unary::next_within` meets its contract.
-- Assumes nothing.
use Rattle.std.specs.Prelude.{Some, None}
use mathlib.Core.Path.{◌≡◌, sym, ap, ◌∙◌}
use mathlib.Core.Bool.{true}
use Prim.Native.Nat.{ℕ, ◌+◌, ◌*◌}
use native.Mathlib.Nat.{pos_of_ne-zero}
use native.Mathlib.Omega.{arith}
use Rattle.errors.specs.Answer.{value}
use Rattle.broadword.specs.Bits.{bit}
use Rattle.broadword.specs.Places.{select}
use Rattle.broadword.proofs.Lowest.{none_zero, at_some}
use Rattle.bit_vectors.specs.Walk.{step, of_stepped}
use Rattle.bit_vectors.proofs.OneAhead.{lowest_cleared}
use Rattle.bit_vectors.proofs.Steps as steps
use Rattle.bit_vectors.proofs.unary.next_within.Goals as goal

pub returns-in_default : goal.returns-in_default
returns-in_default c =
    let l = c.left_of-left in
    let z = none_zero l.result.rest l.ensures.small (sym c.lsb.ensures ∙ c.in_default.is) in
    ap of_stepped c.ended.ensures ∙ steps.ended_is c.args.words.now c.args.len 1 c.requires.ok
    ∙ sym (steps.step_ok c.args.words.now c.args.len c.args.w true 1 0 None c.requires.ok (l.ensures.nothing z))

-- the place that `lsb` gives is that of the lowest one of the rest
lowest : (c : goal.In-Some) → select (bit c.left_of-left.result.rest) 64 0 ≡ Some c.in-Some.bit
lowest c = sym c.lsb.ensures ∙ c.in-Some.is

pub overflow_mul-place : goal.overflow_mul-place
overflow_mul-place c = let p = (c.left_of-left.ensures.place c.in-Some.bit (lowest c)).0 in omega arith

pub overflow_add-place : goal.overflow_add-place
overflow_add-place c = let p = (c.left_of-left.ensures.place c.in-Some.bit (lowest c)).0 in omega arith

pub overflow_add-result : goal.overflow_add-result
overflow_add-result c =
    let l = c.ranges.len.fits in
    let p = (c.left_of-left.ensures.place c.in-Some.bit (lowest c)).0 in
    omega arith

pub overflow_sub-result : goal.overflow_sub-result
overflow_sub-result c = pos_of_ne-zero (at_some c.left_of-left.result.rest c.in-Some.bit (lowest c))

pub returns : goal.returns
returns c =
    let l = c.left_of-left in
    let t = c.in-Some.bit in
    let a = l.ensures.place t (lowest c) in
    let p = l.result.at * 64 + t in
    ap (λ (r : ℕ). step (value p) (record { position = p; from = p + 1; buf = r })) (lowest_cleared l.result.rest t l.ensures.small (lowest c) ∙ a.2)
    ∙ sym (steps.step_ok c.args.words.now c.args.len c.args.w true 1 0 (Some p) c.requires.ok a.1)
