-- `elias_fano_queries::neighbours::successor_opened` meets its contract.
-- Assumes nothing.
use mathlib.Core.Bool.{not}
use mathlib.Core.Path.{ap}
use native.Mathlib.Nat.{le_of_lt}
use native.Mathlib.Omega.{arith}
use Rattle.elias_fano.proofs.Selecting as selecting
use Rattle.elias_fano_queries.proofs.Answering as answering
use Rattle.elias_fano_queries.proofs.Opened as opened
use Rattle.elias_fano_queries.proofs.neighbours.successor_opened.Goals as goal

pub returns-then-val-image : goal.returns-then-val-image
returns-then-val-image c = answering.successor_past c.args.image.now.words.now c.args.image.now.ok c.args.image.now.parts c.args.image.now.right c.args.val c.if-val-image.true

pub returns-then-not-image : goal.returns-then-not-image
returns-then-not-image c = answering.successor_8 c.args.image.now.words.now c.args.image.now.ok c.args.image.now.parts c.args.image.now.right c.args.val c.if-val-image.false (ap not c.if-not-image.true)

pub rank_within-k-requires : goal.rank_within-k-requires
rank_within-k-requires c = (c.if-not-image.false, c.if-val-image.false)

pub returns-then-k-image : goal.returns-then-k-image
returns-then-k-image c = answering.successor_none c.args.image.now.words.now c.args.image.now.ok c.args.image.now.parts c.args.image.now.right c.args.val c.if-val-image.false (ap not c.if-not-image.false) _ c.rank_within-k.ensures c.if-k-image.true

pub overflow_shr-h : goal.overflow_shr-h
overflow_shr-h c = selecting.low_small c.args.image.now.words.now c.args.image.now.ok c.args.image.now.parts c.args.image.now.right

pub overflow_add-h : goal.overflow_add-h
overflow_add-h c = let a = (answering.behind c.args.image.now.words.now c.args.image.now.ok c.args.image.now.parts c.args.image.now.right c.args.val (le_of_lt c.if-val-image.false) _ c.rank_within-k.ensures).upto in omega (arith, opened.high_small c.args.image.now.words.now c.args.image.now.ok c.args.image.now.parts c.args.image.now.right)

pub value_from-requires : goal.value_from-requires
value_from-requires c = (answering.behind c.args.image.now.words.now c.args.image.now.ok c.args.image.now.parts c.args.image.now.right c.args.val (le_of_lt c.if-val-image.false) _ c.rank_within-k.ensures, c.if-k-image.false)

pub returns : goal.returns
returns c = answering.successor_some c.args.image.now.words.now c.args.image.now.ok c.args.image.now.parts c.args.image.now.right c.args.val c.if-val-image.false (ap not c.if-not-image.false) _ c.rank_within-k.ensures c.if-k-image.false _ c.value_from.ensures
