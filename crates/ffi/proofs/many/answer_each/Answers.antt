-- `ffi::many::answer_each` meets its contract.
-- Assumes nothing.
use mathlib.Core.Bool.{true}
use mathlib.Core.Path.{refl}
use native.Mathlib.Omega.{arith}
use Rattle.ffi.proofs.Answering as answering
use Rattle.ffi.proofs.many.answer_each.Goals as goal

pub loop-i-init : goal.loop-i-init
loop-i-init g c = λ f h. answering.none_answered f _ _ _

pub loop-i-preserved : goal.loop-i-preserved
loop-i-preserved g c = λ f h. answering.one-answered f _ _ _ (omega (arith, c.min-count.ensures)) (omega (arith, c.min-count.ensures)) _ _ (c.loop-i.invariant f h) c.loop-i-test.true _ (h _ _ c.answer.ensures) _ c.put.ensures

pub returns : goal.returns
returns g c = λ f h. answering.many_opened true f _ _ refl _ _ c.min-count.ensures (answering.all_answered f _ _ _ (omega (arith, c.min-count.ensures)) (omega (arith, c.min-count.ensures)) _ _ (c.loop-i.invariant f h) c.loop-i-test.false)
