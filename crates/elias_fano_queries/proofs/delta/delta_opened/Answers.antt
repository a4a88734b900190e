-- `elias_fano_queries::delta::delta_opened` meets its contract.
-- Assumes nothing.
use Prim.Native.Nat.{◌+◌}
use native.Mathlib.Omega.{arith}
use Rattle.elias_fano_queries.specs.Demands.{Behind}
use Rattle.elias_fano_queries.proofs.Answering as answering
use Rattle.elias_fano_queries.proofs.Neighbouring as neighbouring
use Rattle.elias_fano_queries.proofs.Opened as opened
use Rattle.elias_fano_queries.proofs.delta.delta_opened.Goals as goal

pub returns-then-k-image : goal.returns-then-k-image
returns-then-k-image c = answering.no_gap c.args.image.now.words.now c.args.image.now.ok c.args.image.now.parts c.args.image.now.right c.args.k c.if-k-image.true

pub value_of-requires : goal.value_of-requires
value_of-requires c = (c.if-k-image.false)

pub returns-then-k-eq0 : goal.returns-then-k-eq0
returns-then-k-eq0 c = answering.first_gap c.args.image.now.words.now c.args.image.now.ok c.args.image.now.parts c.args.image.now.right c.args.k c.if-k-image.false c.if-k-eq0.true _ c.value_of.ensures

pub overflow_sub-k : goal.overflow_sub-k
overflow_sub-k c = omega (arith, c.if-k-eq0.false)

pub one_at-before-requires : goal.one_at-before-requires
one_at-before-requires c = (omega (arith, c.if-k-image.false))

-- the next one is that of the value
next : (c : goal.After-one_at-before) → Behind c.args.image.now.words.now c.args.image.now.parts c.args.k (c.one_at-before.result + 1)
next c = neighbouring.behind_next c.args.image.now.words.now c.args.image.now.parts c.args.k _ (omega (arith, c.if-k-eq0.false)) c.one_at-before.ensures

pub overflow_add-before : goal.overflow_add-before
overflow_add-before c = omega (arith, (next c).upto, opened.high_small c.args.image.now.words.now c.args.image.now.ok c.args.image.now.parts c.args.image.now.right)

pub one_from-place-requires : goal.one_from-place-requires
one_from-place-requires c = (next c, c.if-k-image.false)

pub value_at-requires : goal.value_at-requires
value_at-requires c = c.one_from-place.ensures

pub overflow_sub-k-2 : goal.overflow_sub-k-2
overflow_sub-k-2 c = omega (arith, c.if-k-eq0.false)

pub value_at-requires-2 : goal.value_at-requires-2
value_at-requires-2 c = c.one_at-before.ensures

pub overflow_sub-result : goal.overflow_sub-result
overflow_sub-result c = answering.gap-fits c.args.image.now.words.now c.args.image.now.ok c.args.image.now.parts c.args.image.now.right c.args.k c.if-k-image.false c.if-k-eq0.false _ _ c.value_at.ensures c.value_at-2.ensures

pub returns : goal.returns
returns c = answering.next_gap c.args.image.now.words.now c.args.image.now.ok c.args.image.now.parts c.args.image.now.right c.args.k c.if-k-image.false c.if-k-eq0.false _ _ c.value_at.ensures c.value_at-2.ensures
