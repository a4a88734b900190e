-- `sarray::queries::select1_opened` meets its contract.
-- Assumes nothing.
use native.Mathlib.Omega.{arith}
use Rattle.sarray.proofs.Answering as answering
use Rattle.sarray.proofs.queries.select1_opened.Goals as goal

pub returns-then-k-v : goal.returns-then-k-v
returns-then-k-v c = answering.select_none c.args.image.now c.args.v c.requires c.args.k c.if-k-v.true

pub invariant_of-record : goal.invariant_of-record
invariant_of-record c = let o = answering.is_open c.args.image.now c.args.v c.requires (λ e. omega (arith, c.if-k-v.false, e)) in record { ok = o.ok; right = o.parts }

pub value_of-requires : goal.value_of-requires
value_of-requires c = omega (arith, answering.ones_are c.args.image.now c.args.v c.requires (λ e. omega (arith, c.if-k-v.false, e)), c.if-k-v.false)

pub returns : goal.returns
returns c = answering.select_some c.args.image.now c.args.v c.requires c.args.k c.if-k-v.false _ c.value_of.ensures
