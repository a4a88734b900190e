-- `prefix_summed_elias_fano::build::add_up` meets its contract: the invariant says that `sum` is that of the items before i.
-- Assumes nothing.
use mathlib.Core.Path.{◌≡◌, sym, ap, ◌∙◌}
use Prim.Native.Nat.{ℕ, suc, ◌+◌}
use native.Mathlib.Omega.{arith}
use lib.ListN.{get_or, take}
use Rattle.prefix_summed_elias_fano.specs.Sums.{sum as sum_of}
use Rattle.prefix_summed_elias_fano.proofs.Sums as sums-law
use Rattle.prefix_summed_elias_fano.proofs.build.add_up.Goals as goal

pub loop-i-init : goal.loop-i-init
loop-i-init c = (omega arith, c.requires.order, c.requires.before)

pub offset_bounds-items-i : goal.offset_bounds-items-i
offset_bounds-items-i c = omega (arith, c.loop-i-test.true, c.requires.upto, c.well_formed)

pub bounds-items-i : goal.bounds-items-i
bounds-items-i c = omega (arith, c.loop-i-test.true, c.requires.upto)

pub overflow_add-sum : goal.overflow_add-sum
overflow_add-sum c = let l = c.loop-i in let a = sums-law.sum_next c.args.items.now c.loop-i.i (omega (arith, c.loop-i-test.true, c.requires.upto)) in let b = sums-law.sum-upto c.args.items.now (suc l.i) in omega (arith, c.requires.small, l.invariant.2)

pub loop-i-preserved : goal.loop-i-preserved
loop-i-preserved c = let l = c.loop-i in let a = sums-law.sum_next c.args.items.now c.loop-i.i (omega (arith, c.loop-i-test.true, c.requires.upto)) in (omega (arith, l.invariant.0), omega (arith, c.loop-i-test.true), ap (λ (y : ℕ). y + get_or c.args.items.now l.i 0) l.invariant.2 ∙ sym a ∙ ap (λ (k : ℕ). sum_of (take k c.args.items.now)) (let e : suc l.i ≡ l.i + 1 = omega arith in e))

pub returns : goal.returns
returns c = let l = c.loop-i in l.invariant.2 ∙ ap (λ (k : ℕ). sum_of (take k c.args.items.now)) (let e : l.i ≡ c.args.to = omega (arith, c.loop-i-test.false, l.invariant.1) in e)
