-- `elias_fano_queries::header::is_empty` meets its contract.
-- Assumes nothing.
use mathlib.Core.Path.{ap, ◌∙◌}
use Rattle.errors.specs.Answer.{of_truth}
use Rattle.errors.proofs.Passing as passing
use Rattle.elias_fano.proofs.Answers as answers
use Rattle.elias_fano_queries.proofs.Answering as answering
use Rattle.elias_fano_queries.proofs.header.is_empty.Goals as goal

pub returns : goal.returns
returns c = let i = c.in_ok-image.image in answers.query_image _ c.in_ok-image.image c.in_ok-image.ensures _ _ (answering.empty_is i.words.now i.ok i.parts i.right)

pub returns-in_err-image : goal.returns-in_err-image
returns-in_err-image c = ap of_truth (passing.refused_so _ _ c.from_residual.ensures.1) ∙ answers.query_refused _ _ _ c.in_err-image.ensures
