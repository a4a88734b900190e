-- `bit_vectors::bit_vector::predecessor1` meets its contract.
-- Assumes nothing.
use Rattle.errors.specs.Answer.{of_optional}
use Rattle.bit_words.proofs.Valid.{refused_bits}
use Rattle.std.specs.Prelude.{None}
use mathlib.Core.Bool.{false}
use mathlib.Core.Path.{ap, ◌≡◌, refl, sym, ◌∙◌}
use native.Mathlib.Omega.{arith}
use Rattle.broadword.specs.Places.{last}
use Rattle.bit_words.specs.Vector.{invalid}
use Rattle.bit_words.proofs.Valid.{valid}
use Rattle.bit_vectors.proofs.Cases as cases
use Rattle.bit_vectors.proofs.bit_vector.predecessor1.Goals as goal

pub returns-in_err-checked : goal.returns-in_err-checked
returns-in_err-checked c = ap of_optional (refused_bits _ _ c.from_residual.ensures.1 c.in_err-checked.ensures.0) ∙ sym (cases.predecessor1_13 _ _ _ c.in_err-checked.ensures.1)

pub returns-then-len-eq0 : goal.returns-then-len-eq0
unfolding last
returns-then-len-eq0 c =
    let is_valid : invalid c.args.words.now c.args.len ≡ false = c.in_ok-checked.ensures in
    sym (cases.predecessor1_ok _ _ _ 0 None (is_valid) (let d = c.if-len-eq0.true in omega arith) refl)

pub last_upto-requires : goal.last_upto-requires
last_upto-requires c =
    let is_valid : invalid c.args.words.now c.args.len ≡ false = c.in_ok-checked.ensures in
    let r = (valid c.args.words.now c.args.len (is_valid)).room in
    let d = c.if-len-eq0.false in let r2 = r in omega arith

pub returns : goal.returns
returns c =
    let is_valid : invalid c.args.words.now c.args.len ≡ false = c.in_ok-checked.ensures in
    sym (cases.predecessor1_ok _ _ _ _ c.last_upto.result is_valid (let d = c.if-len-eq0.false in omega arith) (sym c.last_upto.ensures))
