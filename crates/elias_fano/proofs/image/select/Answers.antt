-- `elias_fano::image::select` meets its contract.
-- Assumes nothing.
use mathlib.Core.Path.{ap, ◌∙◌}
use Rattle.errors.specs.Answer.{of_optional}
use Rattle.errors.proofs.Passing as passing
use Rattle.elias_fano.proofs.Answers as answers
use Rattle.elias_fano.proofs.image.select.Goals as goal

pub returns : goal.returns
returns c = answers.query_image _ c.in_ok-image.image c.in_ok-image.ensures _ _ c.select_opened.ensures

pub returns-in_err-image : goal.returns-in_err-image
returns-in_err-image c = ap of_optional (passing.refused_so _ _ c.from_residual.ensures.1) ∙ answers.query_refused _ _ _ c.in_err-image.ensures
