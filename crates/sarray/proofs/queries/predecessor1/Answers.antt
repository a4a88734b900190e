-- `sarray::queries::predecessor1` meets its contract.
-- Assumes nothing.
use mathlib.Core.Path.{refl, ap, ◌∙◌}
use Rattle.errors.specs.Answer.{of_optional}
use Rattle.errors.proofs.Passing as passing
use Rattle.sarray.specs.Ask.{Predecessor1}
use Rattle.sarray.proofs.Vectors as vectors
use Rattle.sarray.proofs.queries.predecessor1.Goals as goal

pub predecessor1_opened-requires : goal.predecessor1_opened-requires
predecessor1_opened-requires c = vectors.open_vector c.args.image.now c.args.len c.args.rank _ c.in_ok-v.ensures _ refl

pub returns : goal.returns
returns c = vectors.query_opened c.args.image.now c.args.len c.args.rank _ c.in_ok-v.ensures _ refl (Predecessor1 c.args.pos) _ c.predecessor1_opened.ensures

pub returns-in_err-v : goal.returns-in_err-v
returns-in_err-v c = ap of_optional (passing.refused_so _ _ c.from_residual.ensures.1) ∙ vectors.query_refused c.args.image.now c.args.len c.args.rank _ c.in_err-v.ensures _ refl (Predecessor1 c.args.pos)
