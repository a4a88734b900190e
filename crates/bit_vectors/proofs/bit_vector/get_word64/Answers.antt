-- `bit_vectors::bit_vector::get_word64` meets its contract.
-- Assumes nothing.
use Rattle.errors.specs.Answer.{of_optional}
use Rattle.bit_words.proofs.Valid.{refused_bits}
use mathlib.Core.Path.{sym, ap, ◌∙◌}
use Prim.Native.Nat.{ℕ, ◌+◌}
use native.Mathlib.Omega.{arith}
use lib.ListN.{take}
use Rattle.errors.specs.Answer.{value}
use Rattle.broadword.specs.Fields.{word}
use Rattle.bit_words.specs.Vector.{bit_at}
use Rattle.bit_vectors.proofs.Cases as cases
use Rattle.bit_words.proofs.Valid.{valid}
use Rattle.bit_vectors.proofs.bit_vector.get_word64.Goals as goal

pub returns-in_err-checked : goal.returns-in_err-checked
returns-in_err-checked c = ap of_optional (refused_bits _ _ c.from_residual.ensures.1 c.in_err-checked.ensures.0) ∙ sym (cases.get_word64_13 _ _ _ c.in_err-checked.ensures.1)

pub returns-then-len-pos : goal.returns-then-len-pos
returns-then-len-pos c = sym (cases.get_word64_none _ _ _ c.in_ok-checked.ensures c.if-len-pos.true)

pub window-requires : goal.window-requires
window-requires c = let v = valid c.args.words.now c.args.len c.in_ok-checked.ensures in let r = v.room in let e = c.words_for-used.ensures in omega arith

pub returns : goal.returns
returns c = ap value (c.window.ensures ∙ ap (λ (u : ℕ). word 1 (λ i. bit_at (take u c.args.words.now) (c.args.pos + i)) 64) c.words_for-used.ensures) ∙ sym (cases.get_word64_ok _ _ _ c.in_ok-checked.ensures c.if-len-pos.false)
