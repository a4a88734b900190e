-- `bit_vectors::unary::next` meets its contract.
-- Assumes nothing.
use mathlib.Core.Path.{sym, ap, ◌∙◌, subst⁻¹}
use native.Mathlib.Omega.{arith}
use mathlib.Core.Bool.{true}
use Rattle.bit_vectors.specs.Walk.{of_stepped, Walking}
use Rattle.bit_vectors.specs.declared.unary.Unary.{Unary}
use Rattle.bit_vectors.proofs.Steps as steps
use Rattle.bit_words.proofs.Valid.{valid}
use Rattle.bit_vectors.proofs.unary.next.Goals as goal

pub returns-then-is_invalid : goal.returns-then-is_invalid
returns-then-is_invalid c = sym (steps.step_13 _ _ _ _ _ _ (sym c.is_invalid.ensures ∙ c.if-is_invalid.true))

pub returns-then-len-from : goal.returns-then-len-from
returns-then-len-from c =
    let ok = sym c.is_invalid.ensures ∙ c.if-is_invalid.false in
    ap of_stepped c.ended.ensures ∙ steps.ended_is c.args.words.now c.args.len 1 ok
    ∙ sym (steps.end_is c.args.words.now c.args.len c.args.w true 1 0 c.args.w.from ok c.if-len-from.true (omega arith))

pub walk_from-requires : goal.walk_from-requires
walk_from-requires c =
    let r = (valid c.args.words.now c.args.len (sym c.is_invalid.ensures ∙ c.if-is_invalid.false)).room in
    omega arith

pub next_within-requires : goal.next_within-requires
next_within-requires c =
    let ok = sym c.is_invalid.ensures ∙ c.if-is_invalid.false in
    subst⁻¹ (Walking c.args.words.now c.args.len) c.walk_from.ensures (steps.walking c.args.words.now c.args.len c.args.w.from ok (omega arith))

pub returns : goal.returns
returns c =
    c.next_within.ensures
    ∙ steps.by_from c.args.words.now c.args.len c.walk_from.result c.args.w true 1 0 (sym c.is_invalid.ensures ∙ c.if-is_invalid.false) (ap (λ (u : Unary). u.from) c.walk_from.ensures)
