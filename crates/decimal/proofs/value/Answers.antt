-- `decimal::value` meets its contract. Assumes nothing.
use mathlib.Core.Path.{sym, ◌∙◌, ap}
use Prim.Native.Nat.{ℕ, ◌+◌, ◌*◌}
use native.Mathlib.Omega.{arith}
use lib.ListN.{drop, get_or}
use Rattle.decimal.specs.Decimal.{value_from}
use Rattle.decimal.proofs.Reading.{digit_at, digit_bounds, value_more, too_large, fitting}
use Rattle.decimal.proofs.value.Goals as goal

pub overflow_sub-b : goal.overflow_sub-b
overflow_sub-b c =
    let t = c.args.text.now in
    (digit_bounds (get_or t c.loop-b.b-index 0) (digit_at t c.loop-b.b-index 0 c.requires c.loop-b-test.true)).0

pub returns-then-d-x : goal.returns-then-d-x
returns-then-d-x c =
    let l = c.loop-b in
    too_large _ l.b-index l.x c.loop-b-test.true l.invariant.1 (omega (arith, c.from-d.ensures, c.if-d-x.true))

pub loop-b-preserved : goal.loop-b-preserved
loop-b-preserved c =
    let l = c.loop-b in
    (omega (arith, c.from-d.ensures, c.if-d-x.false), l.invariant.1 ∙ value_more _ l.b-index c.loop-b-test.true l.x ∙ ap (λ (d : ℕ). value_from (l.x * 10 + d) (drop (l.b-index + 1) c.args.text.now)) (sym c.from-d.ensures))

pub returns : goal.returns
returns c = fitting _ c.loop-b.b-index c.loop-b.x c.loop-b-test.false c.loop-b.invariant.1 c.loop-b.invariant.0
