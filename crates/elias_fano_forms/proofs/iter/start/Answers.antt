-- `elias_fano_forms::iter::start` meets its contract.
-- Assumes nothing.
use mathlib.Core.Path.{subst⁻¹}
use Rattle.errors.proofs.Passing as passing
use Rattle.elias_fano.proofs.Answers as answers
use Rattle.elias_fano_forms.specs.Iterating.{Starts}
use Rattle.elias_fano_forms.proofs.iter.start.Goals as goal

pub returns-in_err-image : goal.returns-in_err-image
returns-in_err-image c = subst⁻¹ (Starts c.args.image.now c.args.k) (passing.refused_so _ _ c.from_residual.ensures.1) (answers.not_open _ _ c.in_err-image.ensures)
