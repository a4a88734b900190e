-- `elias_fano::builder::test_push` meets its contract.
-- Assumes nothing.
use mathlib.Core.Path.{subst⁻¹}
use Rattle.errors.proofs.Passing as passing
use Rattle.elias_fano.specs.Testing.{TestsPush}
use Rattle.elias_fano.proofs.Testing as testing
use Rattle.elias_fano.proofs.builder.test_push.Goals as goal

pub test_value-requires : goal.test_value-requires
test_value-requires c = testing.passed_builder _ _ _ c.test_builder.ensures _ c.in_ok-s.was

pub returns-in_err-s : goal.returns-in_err-s
returns-in_err-s c = subst⁻¹ (TestsPush c.args.b c.args.val c.args.len) (passing.refused_so _ _ c.from_residual.ensures.1) (testing.refused_builder _ _ _ c.test_builder.ensures _ c.in_err-s.was _)
