-- `prefix_summed_elias_fano::access::access` meets its contract.
-- Assumes nothing.
use borrow.Author.Tests.{eqb-true, eqb-false}
use mathlib.Core.Path.{◌∙◌, sym}
use Rattle.prefix_summed_elias_fano.proofs.Cases as cases
use Rattle.prefix_summed_elias_fano.proofs.access.access.Goals as goal

pub returns-then-is_empty : goal.returns-then-is_empty
returns-then-is_empty c = cases.access_none c.args.image.now c.args.pos (eqb-true _ _ (sym c.is_empty.ensures ∙ c.if-is_empty.true))

pub returns : goal.returns
returns c = c.delta.ensures ∙ cases.access_some c.args.image.now c.args.pos (eqb-false _ _ (sym c.is_empty.ensures ∙ c.if-is_empty.false))
