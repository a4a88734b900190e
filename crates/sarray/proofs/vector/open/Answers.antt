-- `sarray::vector::open` meets its contract.
-- Assumes nothing.
use borrow.Author.Tests.{eqb-true, eqb-false, not-true, not-false}
use mathlib.Core.Path.{refl, sym, ap, ◌∙◌}
use Rattle.errors.proofs.Passing as passing
use Rattle.sarray.specs.Opened.{of_vector}
use Rattle.sarray.proofs.Vectors as vectors
use Rattle.sarray.proofs.vector.open.Goals as goal

pub returns-then-is_empty : goal.returns-then-is_empty
returns-then-is_empty c = vectors.opens_zeros c.args.image.now c.args.len c.args.rank (eqb-true _ _ (sym c.is_empty.ensures ∙ c.if-is_empty.true)) _ c.no_parts.ensures

pub returns-in_err-p : goal.returns-in_err-p
returns-in_err-p c = ap of_vector (passing.refused_so _ _ c.from_residual.ensures.1) ∙ vectors.opens_refused c.args.image.now c.args.len c.args.rank (eqb-false _ _ (sym c.is_empty.ensures ∙ c.if-is_empty.false)) _ c.in_err-p.ensures

pub returns-then-not-is_whole : goal.returns-then-not-is_whole
returns-then-not-is_whole c = vectors.opens_other c.args.image.now c.args.len c.args.rank (eqb-false _ _ (sym c.is_empty.ensures ∙ c.if-is_empty.false)) _ _ c.in_ok-p.ensures refl (sym c.is_whole.ensures ∙ not-true _ c.if-not-is_whole.true-raw)

pub returns : goal.returns
returns c = vectors.opens_image c.args.image.now c.args.len c.args.rank (eqb-false _ _ (sym c.is_empty.ensures ∙ c.if-is_empty.false)) _ _ c.in_ok-p.ensures refl (sym c.is_whole.ensures ∙ not-false _ c.if-not-is_whole.false-raw)
