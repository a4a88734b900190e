-- `bit_vectors::unary::skip_over` meets its contract.
-- Assumes nothing.
use mathlib.Core.Path.{sym, ap, ◌∙◌}
use Prim.Native.Nat.{◌+◌, ◌*◌}
use native.Mathlib.Omega.{arith}
use Rattle.broadword.specs.Bits.{count}
use Rattle.broadword.proofs.Find.{selected}
use Rattle.bit_words.specs.Vector.{bit_over}
use Rattle.bit_vectors.specs.Walk.{of_stepped}
use Rattle.bit_words.proofs.Runs.{bit_over_le, select_few}
use Rattle.bit_vectors.proofs.Steps as steps
use Rattle.bit_words.proofs.Valid.{valid}
use Rattle.bit_vectors.proofs.unary.skip_over.Goals as goal

pub returns-then-is_invalid : goal.returns-then-is_invalid
returns-then-is_invalid c = sym (steps.step_13 _ _ _ _ _ _ (sym c.is_invalid.ensures ∙ c.if-is_invalid.true))

pub returns-then-len-from : goal.returns-then-len-from
returns-then-len-from c = ap of_stepped c.ended.ensures ∙ steps.ended_is c.args.words.now c.args.len 0 (sym c.is_invalid.ensures ∙ c.if-is_invalid.false) ∙ sym (steps.end_is c.args.words.now c.args.len c.args.w c.args.over_one 0 c.args.k c.args.w.from (sym c.is_invalid.ensures ∙ c.if-is_invalid.false) c.if-len-from.true (omega arith))

pub find_from-requires : goal.find_from-requires
find_from-requires c = let v = valid c.args.words.now c.args.len (sym c.is_invalid.ensures ∙ c.if-is_invalid.false) in let r = v.room in let e = c.words_for-used.ensures in record { start = omega arith; room = omega arith; few = omega arith }

pub returns-in_default : goal.returns-in_default
returns-in_default c = let e = c.words_for-used.ensures in ap of_stepped c.ended-in_default.ensures ∙ steps.ended_is c.args.words.now c.args.len 0 (sym c.is_invalid.ensures ∙ c.if-is_invalid.false) ∙ sym (steps.end_is c.args.words.now c.args.len c.args.w c.args.over_one 0 c.args.k (c.words_for-used.result * 64) (sym c.is_invalid.ensures ∙ c.if-is_invalid.false) (omega arith) (select_few (bit_over c.args.over_one c.args.words.now) (bit_over_le c.args.over_one c.args.words.now) (c.words_for-used.result * 64) 0 (count (bit_over c.args.over_one c.args.words.now) c.args.w.from + c.args.k) (sym c.find_from.ensures ∙ c.in_default.is)))

pub stop-requires : goal.stop-requires
stop-requires c = (sym c.is_invalid.ensures ∙ c.if-is_invalid.false)

pub returns : goal.returns
returns c = let r = selected (bit_over c.args.over_one c.args.words.now) (c.words_for-used.result * 64) (count (bit_over c.args.over_one c.args.words.now) c.args.w.from + c.args.k) c.in-Some.place (sym c.find_from.ensures ∙ c.in-Some.is) in c.stop.ensures ∙ sym (steps.stop_is c.args.words.now c.args.len c.args.w c.args.over_one c.args.k c.in-Some.place (sym c.is_invalid.ensures ∙ c.if-is_invalid.false) r.one r.before)
