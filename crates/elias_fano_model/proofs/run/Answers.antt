-- `elias_fano_model::run` meets its contract.
-- Assumes nothing.
use Rattle.std.specs.Prelude.{Result}
use mathlib.Core.Path.{refl, ap, ◌∙◌}
use Rattle.errors.specs.declared.Refusal.{Refusal}
use Rattle.errors.proofs.Passing as passing
use Rattle.elias_fano_model.specs.declared.Ended.{Ended}
use Rattle.elias_fano_model.specs.Run.{of_ran, left}
use Rattle.elias_fano_model.proofs.Running as running
use Rattle.elias_fano_model.proofs.run.Goals as goal

pub returns-then-answers-calls : goal.returns-then-answers-calls
returns-then-answers-calls c = running.no_places c.args.universe c.args.num_vals c.args.calls.now c.args.buffer.now c.args.answers.now c.if-answers-calls.true

pub returns : goal.returns
returns c = c.perform.ensures ∙ running.begun c.args.universe c.args.num_vals c.args.calls.now c.args.buffer.now c.args.answers.now c.if-answers-calls.false c.ranges.universe.fits (λ i. (c.slice_known-1.given i).fits) _ _ _ c.in_ok-b.ensures refl

pub returns-in_err-b : goal.returns-in_err-b
returns-in_err-b c = ap (λ (r : Result Ended Refusal). left (of_ran r) c.new.new.buffer c.args.answers.now) (passing.refused_so _ _ c.from_residual.ensures.1) ∙ running.refuses c.args.universe c.args.num_vals c.args.calls.now c.args.buffer.now c.args.answers.now c.if-answers-calls.false _ _ _ c.in_err-b.ensures refl
