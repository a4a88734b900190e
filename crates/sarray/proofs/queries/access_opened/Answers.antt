-- `sarray::queries::access_opened` meets its contract.
-- Assumes nothing.
use Rattle.std.specs.Prelude.{Bool}
use Rattle.errors.specs.Answer.{value, flag}
use mathlib.Core.Path.{ap, ◌∙◌}
use Rattle.sarray.proofs.Answering as answering
use Rattle.sarray.proofs.queries.access_opened.Goals as goal

pub returns-then-pos-v : goal.returns-then-pos-v
returns-then-pos-v c = answering.access_past c.args.image.now c.args.v c.requires c.args.pos c.if-pos-v.true

pub returns-then-v-eq0 : goal.returns-then-v-eq0
returns-then-v-eq0 c = answering.access_zeros c.args.image.now c.args.v c.requires c.args.pos c.if-pos-v.false c.if-v-eq0.true

pub invariant_of-record : goal.invariant_of-record
invariant_of-record c = let o = answering.is_open c.args.image.now c.args.v c.requires c.if-v-eq0.false in record { ok = o.ok; right = o.parts }

pub returns : goal.returns
returns c =
    ap (λ (b : Bool). value (flag b)) c.is_some.ensures
    ∙ answering.access_found c.args.image.now c.args.v c.requires c.args.pos c.if-pos-v.false c.if-v-eq0.false _ c.in_ok-found.ensures

pub returns-in_err-found : goal.returns-in_err-found
returns-in_err-found c = absurd (answering.no_refusal c.args.image.now c.args.v c.requires c.args.pos c.if-pos-v.false c.if-v-eq0.false _ c.in_err-found.ensures)
