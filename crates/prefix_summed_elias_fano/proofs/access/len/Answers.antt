-- `prefix_summed_elias_fano::access::len` meets its contract.
-- Assumes nothing.
use borrow.Author.Tests.{eqb-true, eqb-false}
use mathlib.Core.Path.{◌∙◌, sym}
use Rattle.prefix_summed_elias_fano.proofs.Cases as cases
use Rattle.prefix_summed_elias_fano.proofs.access.len.Goals as goal

pub returns-then-is_empty : goal.returns-then-is_empty
returns-then-is_empty c = cases.len_none c.args.image.now (eqb-true _ _ (sym c.is_empty.ensures ∙ c.if-is_empty.true))

pub returns : goal.returns
returns c = c.len.ensures ∙ cases.len_some c.args.image.now (eqb-false _ _ (sym c.is_empty.ensures ∙ c.if-is_empty.false))
