-- `bit_vectors::unary::new` meets its contract.
-- Assumes nothing.
use Rattle.bit_vectors.specs.Walk.{of_started}
use Rattle.bit_words.proofs.Valid.{refused_bits}
use mathlib.Core.Path.{sym, ap, ◌∙◌}
use native.Mathlib.Omega.{arith}
use Rattle.bit_vectors.specs.Walk.{begun, Step}
use Rattle.errors.specs.Answer.{none}
use Rattle.bit_vectors.proofs.Steps as steps
use Rattle.bit_words.proofs.Valid.{valid}
use Rattle.bit_vectors.proofs.unary.new.Goals as goal

pub returns-in_err-checked : goal.returns-in_err-checked
returns-in_err-checked c = ap of_started (refused_bits _ _ c.from_residual.ensures.1 c.in_err-checked.ensures.0) ∙ sym (steps.new_13 _ _ _ c.in_err-checked.ensures.1)

pub returns-then-used-start : goal.returns-then-used-start
returns-then-used-start c = let e = c.words_for-used.ensures in sym (steps.new_16 _ _ _ c.in_ok-checked.ensures (omega arith))

pub walk_from-requires : goal.walk_from-requires
walk_from-requires c = let v = valid c.args.words.now c.args.len c.in_ok-checked.ensures in let r = v.room in let e = c.words_for-used.ensures in omega arith

pub returns : goal.returns
returns c = let e = c.words_for-used.ensures in ap begun (c.walk_from.ensures ∙ ap (λ (s : Step). s.walk) (steps.walk_is c.args.words.now c.args.len none c.args.start c.in_ok-checked.ensures (omega arith))) ∙ sym (steps.new_ok _ _ _ c.in_ok-checked.ensures (omega arith))
