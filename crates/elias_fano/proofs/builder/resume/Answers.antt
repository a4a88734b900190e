-- `elias_fano::builder::resume` meets its contract.
-- Assumes nothing.
use Rattle.elias_fano.specs.Made.{of_pushed}
use Rattle.elias_fano.specs.declared.builder.Builder.{Builder}
use Rattle.errors.specs.declared.Refusal.{Refusal}
use Rattle.std.specs.Prelude.{Result}
use mathlib.Core.Path.{ap, ◌∙◌}
use Rattle.errors.proofs.Passing as passing
use Rattle.elias_fano.proofs.Resuming as resuming
use Rattle.elias_fano.proofs.Testing as testing
use Rattle.elias_fano.proofs.builder.resume.Goals as goal

pub resume_by-requires : goal.resume_by-requires
resume_by-requires c = testing.passed_builder _ _ _ c.test_builder.ensures _ c.in_ok-s.was

pub returns-in_err-s : goal.returns-in_err-s
returns-in_err-s c = ap (λ (r : Result Builder Refusal). of_pushed c.args.b r c.args.words.now) (passing.refused_so _ _ c.from_residual.ensures.1) ∙ resuming.resume_refused _ _ _ (testing.refused_builder _ _ _ c.test_builder.ensures _ c.in_err-s.was _)
