-- `bit_vectors::bit_vector::access` meets its contract.
-- Assumes nothing.
use Rattle.errors.specs.Answer.{of_bit}
use Rattle.bit_words.proofs.Valid.{refused_bits}
use mathlib.Core.Path.{sym, ap, ◌∙◌}
use native.Mathlib.Omega.{arith}
use Rattle.errors.specs.Answer.{value}
use Rattle.bit_words.proofs.Runs.{bit-flag}
use Rattle.bit_vectors.proofs.Cases as cases
use Rattle.bit_words.proofs.Valid.{valid}
use Rattle.bit_vectors.proofs.bit_vector.access.Goals as goal

pub returns-in_err-checked : goal.returns-in_err-checked
returns-in_err-checked c = ap of_bit (refused_bits _ _ c.from_residual.ensures.1 c.in_err-checked.ensures.0) ∙ sym (cases.access_13 _ _ _ c.in_err-checked.ensures.1)

pub returns-then-len-pos : goal.returns-then-len-pos
returns-then-len-pos c = sym (cases.access_none _ _ _ c.in_ok-checked.ensures c.if-len-pos.true)

pub bounds-words-at : goal.bounds-words-at
bounds-words-at c = let v = valid c.args.words.now c.args.len c.in_ok-checked.ensures in let r = v.room in omega arith

pub returns : goal.returns
returns c = ap value (bit-flag c.args.words.now c.args.pos) ∙ sym (cases.access_ok _ _ _ c.in_ok-checked.ensures c.if-len-pos.false)
