-- `prefix_summed_elias_fano::walk::read_items` meets its contract.
-- Assumes nothing.
use Rattle.std.specs.Prelude.{ℕ, Result}
use mathlib.Core.Path.{ap, ◌∙◌}
use Rattle.errors.specs.Answer.{leaves, of_result}
use Rattle.errors.specs.declared.Refusal.{Refusal}
use Rattle.errors.proofs.Passing as passing
use Rattle.prefix_summed_elias_fano.proofs.Taking as taking
use Rattle.prefix_summed_elias_fano.proofs.walk.read_items.Goals as goal

pub read_on-requires : goal.read_on-requires
read_on-requires c = c.in_ok-c.ensures.1

pub returns : goal.returns
returns c = let r = c.read_on.ensures in taking.items_read c.args.image.now c.args.k c.args.out.now c.in_ok-c.c c.in_ok-c.ensures c.read_on.result _ r.0 r.1

pub returns-in_err-c : goal.returns-in_err-c
returns-in_err-c c = ap (λ (r : Result ℕ Refusal). leaves (of_result r) c.args.out.now) (passing.refused_so _ _ c.from_residual.ensures.1) ∙ taking.items_refused c.args.image.now c.args.k c.args.out.now _ c.in_err-c.ensures
