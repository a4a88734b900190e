-- `elias_fano_queries::neighbours::last_value` meets its contract.
-- Assumes nothing.
use native.Mathlib.Omega.{arith}
use Rattle.elias_fano_queries.proofs.Answering as answering
use Rattle.elias_fano_queries.proofs.neighbours.last_value.Goals as goal

pub returns-then-m-eq0 : goal.returns-then-m-eq0
returns-then-m-eq0 c = answering.no_last c.args.image.now.words.now c.args.image.now.ok c.args.image.now.parts c.args.image.now.right (omega (arith, c.if-m-eq0.true))

pub returns : goal.returns
returns c = answering.is_last c.args.image.now.words.now c.args.image.now.ok c.args.image.now.parts c.args.image.now.right _ c.select_opened.ensures
