-- `elias_fano::builder::test_build` meets its contract.
-- Assumes nothing.
use mathlib.Core.Path.{subst⁻¹}
use Rattle.errors.proofs.Passing as passing
use Rattle.elias_fano.specs.Testing.{TestsBuild}
use Rattle.elias_fano.proofs.Testing as testing
use Rattle.elias_fano.proofs.builder.test_build.Goals as goal

pub test_image-requires : goal.test_image-requires
test_image-requires c = testing.passed_builder _ _ _ c.test_builder.ensures _ c.in_ok-s.was

pub returns-in_err-s : goal.returns-in_err-s
returns-in_err-s c = subst⁻¹ (TestsBuild c.args.b c.args.rank c.args.words.now) (passing.refused_so _ _ c.from_residual.ensures.1) (testing.refused_builder _ _ _ c.test_builder.ensures _ c.in_err-s.was _)
