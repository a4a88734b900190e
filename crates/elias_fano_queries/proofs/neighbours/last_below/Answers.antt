-- `elias_fano_queries::neighbours::last_below` meets its contract.
-- Assumes nothing.
use native.Mathlib.Omega.{arith}
use Rattle.elias_fano.proofs.Selecting as selecting
use Rattle.elias_fano_queries.proofs.Answering as answering
use Rattle.elias_fano_queries.proofs.Opened as opened
use Rattle.elias_fano_queries.proofs.neighbours.last_below.Goals as goal

pub returns-then-k-eq0 : goal.returns-then-k-eq0
returns-then-k-eq0 c = answering.last_below_none c.args.image.now.words.now c.args.image.now.ok c.args.image.now.parts c.args.image.now.right c.args.t c.requires.0 c.args.k c.requires.2 c.if-k-eq0.true

pub overflow_shr-h : goal.overflow_shr-h
overflow_shr-h c = selecting.low_small c.args.image.now.words.now c.args.image.now.ok c.args.image.now.parts c.args.image.now.right

pub overflow_add-h : goal.overflow_add-h
overflow_add-h c =
    let a = (answering.behind c.args.image.now.words.now c.args.image.now.ok c.args.image.now.parts c.args.image.now.right c.args.t (omega (arith, c.requires.1)) c.args.k c.requires.2).upto in
    omega (arith, a, opened.high_small c.args.image.now.words.now c.args.image.now.ok c.args.image.now.parts c.args.image.now.right)

pub value_before-requires : goal.value_before-requires
value_before-requires c =
    (answering.behind c.args.image.now.words.now c.args.image.now.ok c.args.image.now.parts c.args.image.now.right c.args.t (omega (arith, c.requires.1)) c.args.k c.requires.2, omega (arith, c.if-k-eq0.false))

pub returns : goal.returns
returns c = answering.last_below_some c.args.image.now.words.now c.args.image.now.ok c.args.image.now.parts c.args.image.now.right c.args.t c.requires.0 c.args.k c.requires.2 c.if-k-eq0.false _ c.value_before.ensures
