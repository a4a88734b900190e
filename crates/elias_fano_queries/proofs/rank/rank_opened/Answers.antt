-- `elias_fano_queries::rank::rank_opened` meets its contract.
-- Assumes nothing.
use mathlib.Core.Bool.{not}
use mathlib.Core.Path.{ap}
use native.Mathlib.Omega.{arith}
use Rattle.elias_fano_queries.proofs.Answering as answering
use Rattle.elias_fano_queries.proofs.rank.rank_opened.Goals as goal

pub returns-then-val-image : goal.returns-then-val-image
returns-then-val-image c = answering.rank_past c.args.image.now.words.now c.args.image.now.ok c.args.image.now.parts c.args.image.now.right c.args.val c.if-val-image.true

pub returns-then-val-image-2 : goal.returns-then-val-image-2
returns-then-val-image-2 c = answering.rank_at c.args.image.now.words.now c.args.image.now.ok c.args.image.now.parts c.args.image.now.right c.args.val c.if-val-image.false c.if-val-image-2.true

pub returns-then-not-image : goal.returns-then-not-image
returns-then-not-image c = answering.rank_8 c.args.image.now.words.now c.args.image.now.ok c.args.image.now.parts c.args.image.now.right c.args.val c.if-val-image.false c.if-val-image-2.false (ap not c.if-not-image.true)

pub rank_within-requires : goal.rank_within-requires
rank_within-requires c = (c.if-not-image.false, omega (arith, c.if-val-image.false, c.if-val-image-2.false))

pub returns : goal.returns
returns c = answering.rank_some c.args.image.now.words.now c.args.image.now.ok c.args.image.now.parts c.args.image.now.right c.args.val c.if-val-image.false c.if-val-image-2.false (ap not c.if-not-image.false) _ c.rank_within.ensures
