-- `sarray::queries::rank1_opened` meets its contract.
-- Assumes nothing.
use mathlib.Core.Path.{sym, ◌∙◌}
use borrow.Author.Tests.{not-false}
use native.Mathlib.Omega.{arith}
use Rattle.sarray.proofs.Answering as answering
use Rattle.sarray.proofs.queries.rank1_opened.Goals as goal

pub returns-then-not-v : goal.returns-then-not-v
returns-then-not-v c = answering.rank_8 c.args.image.now c.args.v c.requires c.if-not-v.true c.args.pos

pub returns-then-pos-v : goal.returns-then-pos-v
returns-then-pos-v c = answering.rank_past c.args.image.now c.args.v c.requires c.if-not-v.false c.args.pos c.if-pos-v.true

pub returns-then-v-eq0 : goal.returns-then-v-eq0
returns-then-v-eq0 c = answering.rank_zeros c.args.image.now c.args.v c.requires c.if-not-v.false c.args.pos c.if-pos-v.false c.if-v-eq0.true

pub returns-then-pos-v-2 : goal.returns-then-pos-v-2
returns-then-pos-v-2 c = answering.rank_end c.args.image.now c.args.v c.requires c.if-not-v.false c.args.pos c.if-pos-v.false c.if-v-eq0.false c.if-pos-v-2.true

pub invariant_of-record : goal.invariant_of-record
invariant_of-record c = let o = answering.is_open c.args.image.now c.args.v c.requires c.if-v-eq0.false in record { ok = o.ok; right = o.parts }

pub rank_within-requires : goal.rank_within-requires
rank_within-requires c = (sym (answering.choice_is c.args.image.now c.args.v c.requires c.if-v-eq0.false) ∙ not-false _ c.if-not-v.false, omega (arith, answering.bits_are c.args.image.now c.args.v c.requires c.if-v-eq0.false, c.if-pos-v.false, c.if-pos-v-2.false))

pub returns : goal.returns
returns c = answering.rank_is c.args.image.now c.args.v c.requires c.if-not-v.false c.args.pos c.if-pos-v.false _ c.rank_within.ensures
