-- `weekly_windows::count_on` meets its contract. Assumes nothing.
use native.Mathlib.Omega.{arith}
use Rattle.weekly_windows.proofs.Counting as counting
use Rattle.weekly_windows.proofs.count_on.Goals as goal

pub returns-then-e-x : goal.returns-then-e-x
returns-then-e-x c =
    let l = c.loop in
    counting.counts_stop c.args.image.now.words.now c.args.image.now.ok c.args.image.now.parts c.args.image.now.right _ c.args.e _ l.w l.count l.invariant.1 (omega (arith, c.loop-test.true, l.invariant.0)) _ c.take-t.ensures.2 (omega (arith, c.if-e-x.true))

pub loop-preserved : goal.loop-preserved
loop-preserved c =
    let l = c.loop in
    let t = c.take-t.ensures in
    (omega (arith, l.invariant.0, t.1), counting.counts_more c.args.image.now.words.now c.args.image.now.ok c.args.image.now.parts c.args.image.now.right _ c.args.e _ l.w l.count l.invariant.1 (omega (arith, c.loop-test.true, l.invariant.0)) _ t.2 (omega (arith, c.if-e-x.false)) _ c.is_inside-count.ensures _ t.0 t.1)

pub returns : goal.returns
returns c =
    let l = c.loop in
    counting.counts_end c.args.image.now.words.now c.args.image.now.ok c.args.image.now.parts c.args.image.now.right _ c.args.e _ l.w l.count l.invariant.1 (omega (arith, c.loop-test.false, l.invariant.0))
