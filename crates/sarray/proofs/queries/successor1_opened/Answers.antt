-- `sarray::queries::successor1_opened` meets its contract.
-- Assumes nothing.
use mathlib.Core.Path.{◌∙◌}
use Rattle.sarray.proofs.Answering as answering
use Rattle.sarray.proofs.queries.successor1_opened.Goals as goal

pub returns-then-not-v : goal.returns-then-not-v
returns-then-not-v c = answering.successor_8 c.args.image.now c.args.v c.requires c.if-not-v.true c.args.pos

pub returns-then-pos-v : goal.returns-then-pos-v
returns-then-pos-v c = answering.successor_past c.args.image.now c.args.v c.requires c.if-not-v.false c.args.pos c.if-pos-v.true

pub returns-then-v-eq0 : goal.returns-then-v-eq0
returns-then-v-eq0 c = answering.successor_zeros c.args.image.now c.args.v c.requires c.if-not-v.false c.args.pos c.if-pos-v.false c.if-v-eq0.true

pub invariant_of-record : goal.invariant_of-record
invariant_of-record c = let o = answering.is_open c.args.image.now c.args.v c.requires c.if-v-eq0.false in record { ok = o.ok; right = o.parts }

pub returns : goal.returns
returns c = c.place_of.ensures ∙ c.successor_opened.ensures ∙ answering.successor_is c.args.image.now c.args.v c.requires c.if-not-v.false c.args.pos c.if-pos-v.false c.if-v-eq0.false
