-- `prefix_summed_elias_fano::build::sum_of` meets its contract: the invariant says that `sum` is that of the items before i.
-- Assumes nothing.
use mathlib.Core.Path.{◌≡◌, sym, ap, ◌∙◌}
use Prim.Native.Nat.{ℕ, suc, ◌+◌}
use native.Mathlib.Omega.{arith}
use lib.ListN.{get_or, take}
use lib.Seq.{take_all}
use Rattle.prefix_summed_elias_fano.specs.Sums.{sum as sum_of}
use Rattle.prefix_summed_elias_fano.proofs.Sums as sums-law
use Rattle.prefix_summed_elias_fano.proofs.build.sum_of.Goals as goal

pub loop-i-init : goal.loop-i-init
loop-i-init c = (omega arith, sym sums-law.sum_none, omega arith)

pub overflow_sub-sum : goal.overflow_sub-sum
overflow_sub-sum c = omega arith

pub returns-then-items-i : goal.returns-then-items-i
returns-then-items-i c = let l = c.loop-i in let a = sums-law.sum_next c.args.items.now c.loop-i.i c.loop-i-test.true in let b = sums-law.sum-upto c.args.items.now (suc l.i) in omega (arith, c.if-items-i.true, l.invariant.1)

pub overflow_add-sum : goal.overflow_add-sum
overflow_add-sum c = omega (arith, c.if-items-i.false, c.loop-i.invariant.2)

pub loop-i-preserved : goal.loop-i-preserved
loop-i-preserved c = let l = c.loop-i in let a = sums-law.sum_next c.args.items.now c.loop-i.i c.loop-i-test.true in (omega (arith, c.loop-i-test.true), ap (λ (y : ℕ). y + get_or c.args.items.now l.i 0) l.invariant.1 ∙ sym a ∙ ap (λ (k : ℕ). sum_of (take k c.args.items.now)) (let e : suc l.i ≡ l.i + 1 = omega arith in e), omega (arith, c.if-items-i.false, l.invariant.2))

pub returns : goal.returns
returns c = let l = c.loop-i in (l.invariant.1 ∙ ap sum_of (take_all l.i c.args.items.now c.loop-i-test.false), omega (arith, l.invariant.2))
