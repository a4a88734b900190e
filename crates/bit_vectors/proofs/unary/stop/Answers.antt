-- `bit_vectors::unary::stop` meets its contract.
-- Assumes nothing.
use mathlib.Core.Path.{sym, ap, ◌∙◌}
use Prim.Native.Nat.{ℕ}
use native.Mathlib.Omega.{arith}
use native.Mathlib.Nat.{add-zero}
use Rattle.errors.specs.Answer.{value}
use Rattle.bit_vectors.specs.Walk.{step, of_stepped, walk_at}
use Rattle.bit_vectors.proofs.Steps as steps
use Rattle.bit_words.proofs.Valid.{valid}
use Rattle.bit_vectors.proofs.unary.stop.Goals as goal

pub returns-then-len-place : goal.returns-then-len-place
returns-then-len-place c = ap of_stepped c.ended.ensures ∙ steps.ended_is c.args.words.now c.args.len 0 c.requires ∙ sym (steps.stop_past c.args.words.now c.args.len c.args.place c.if-len-place.true)

pub walk_from-requires : goal.walk_from-requires
walk_from-requires c = let v = valid c.args.words.now c.args.len c.requires in let r = v.room in omega arith

pub returns : goal.returns
returns c = ap (step (value c.args.place)) c.walk_from.ensures ∙ steps.walk_is c.args.words.now c.args.len (value c.args.place) c.args.place c.requires (omega arith) ∙ (ap (λ (q : ℕ). step (value c.args.place) (walk_at c.args.words.now c.args.len c.args.place q)) (sym (add-zero c.args.place))) ∙ sym (steps.stop_in c.args.words.now c.args.len c.args.place c.if-len-place.false)
