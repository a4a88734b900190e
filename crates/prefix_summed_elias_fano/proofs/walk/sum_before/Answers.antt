-- `prefix_summed_elias_fano::walk::sum_before` meets its contract. Assumes nothing.
use mathlib.Core.Path.{subst}
use Prim.Native.Nat.{ℕ, ◌<◌}
use Rattle.elias_fano.specs.Accept.{times}
use Rattle.elias_fano.proofs.Selecting as selecting
use Rattle.prefix_summed_elias_fano.proofs.Taking as taking
use Rattle.prefix_summed_elias_fano.proofs.walk.sum_before.Goals as goal

pub returns-then-k-eq0 : goal.returns-then-k-eq0
returns-then-k-eq0 c = taking.before_first (times c.args.image.now.words.now) c.args.k c.if-k-eq0.true

pub returns-then-k-image : goal.returns-then-k-image
returns-then-k-image c = taking.before-past (times c.args.image.now.words.now) c.args.k (subst (λ (n : ℕ). n < c.args.k) (selecting.pushed_is c.args.image.now.words.now c.args.image.now.ok c.args.image.now.parts c.args.image.now.right) c.if-k-image.true)

pub returns : goal.returns
returns c = taking.before_next (times c.args.image.now.words.now) c.args.k _ c.if-k-eq0.false c.value_of.ensures
