-- `winters::summarize_after` meets its contract. Assumes nothing.
use native.Mathlib.Omega.{arith}
use Rattle.winters.proofs.Summing as summing
use Rattle.winters.proofs.summarize_after.Goals as goal

pub with_others-requires : goal.with_others-requires
with_others-requires c =
    let l = c.loop in
    summing.sums_few c.args.image.now.words.now c.args.image.now.ok c.args.image.now.parts c.args.image.now.right c.args.first c.args.e _ l.w l.last l.gap l.invariant.1

pub returns-then-e-x : goal.returns-then-e-x
returns-then-e-x c =
    let l = c.loop in
    summing.sums_end c.args.image.now.words.now c.args.image.now.ok c.args.image.now.parts c.args.image.now.right c.args.first c.args.e _ l.w l.last l.gap l.invariant.1 (summing.none_within c.args.image.now.words.now c.args.image.now.ok c.args.image.now.parts c.args.image.now.right c.args.e _ _ c.take-t.ensures.2 (omega (arith, c.if-e-x.true))) _ c.with_others.ensures

pub overflow_sub-x : goal.overflow_sub-x
overflow_sub-x c =
    let l = c.loop in
    let u = summing.next_upto c.args.image.now.words.now c.args.image.now.ok c.args.image.now.parts c.args.image.now.right c.args.first c.args.e _ l.w l.last l.gap l.invariant.1 (omega (arith, c.loop-test.true, l.invariant.0)) _ c.take-t.ensures.2 in
    omega (arith, u.0, u.1)

pub loop-preserved : goal.loop-preserved
loop-preserved c =
    let l = c.loop in
    let t = c.take-t.ensures in
    (omega (arith, l.invariant.0, t.1), summing.sums_more c.args.image.now.words.now c.args.image.now.ok c.args.image.now.parts c.args.image.now.right c.args.first c.args.e _ l.w l.last l.gap l.invariant.1 (omega (arith, c.loop-test.true, l.invariant.0)) _ t.2 (omega (arith, c.if-e-x.false)) _ t.0 t.1 _ c.min-gap.ensures)

pub with_others-requires-2 : goal.with_others-requires-2
with_others-requires-2 c =
    let l = c.loop in
    summing.sums_few c.args.image.now.words.now c.args.image.now.ok c.args.image.now.parts c.args.image.now.right c.args.first c.args.e _ l.w l.last l.gap l.invariant.1

pub returns : goal.returns
returns c =
    let l = c.loop in
    summing.sums_end c.args.image.now.words.now c.args.image.now.ok c.args.image.now.parts c.args.image.now.right c.args.first c.args.e _ l.w l.last l.gap l.invariant.1 (summing.none_after c.args.image.now.words.now c.args.image.now.ok c.args.image.now.parts c.args.image.now.right c.args.e _ (omega (arith, c.loop-test.false, l.invariant.0))) _ c.with_others-2.ensures
