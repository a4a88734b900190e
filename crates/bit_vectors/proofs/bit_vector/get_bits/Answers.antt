-- `bit_vectors::bit_vector::get_bits` meets its contract.
-- Assumes nothing.
use Rattle.errors.specs.Answer.{of_optional}
use Rattle.bit_words.proofs.Valid.{refused_bits}
use mathlib.Core.Path.{sym, ap, ◌∙◌}
use Prim.Native.Nat.{ℕ, ◌+◌, ◌%◌, ◌^◌}
use native.Mathlib.Omega.{arith}
use Rattle.errors.specs.Answer.{value}
use Rattle.broadword.specs.Fields.{word}
use Rattle.bit_words.specs.Vector.{bit_at}
use Rattle.bit_words.proofs.Windows.{narrowed}
use Rattle.bit_vectors.proofs.Cases as cases
use Rattle.bit_words.proofs.Valid.{valid}
use Rattle.bit_vectors.proofs.bit_vector.get_bits.Goals as goal

pub returns-in_err-checked : goal.returns-in_err-checked
returns-in_err-checked c = ap of_optional (refused_bits _ _ c.from_residual.ensures.1 c.in_err-checked.ensures.0) ∙ sym (cases.get_bits_13 _ _ _ _ c.in_err-checked.ensures.1)

pub returns-then-width-gt-WORD_LEN : goal.returns-then-width-gt-WORD_LEN
returns-then-width-gt-WORD_LEN c = sym (cases.get_bits_wide _ _ _ _ c.in_ok-checked.ensures c.if-width-gt-WORD_LEN.true)

pub returns-then-len-width : goal.returns-then-len-width
returns-then-len-width c = sym (cases.get_bits_past _ _ _ _ c.in_ok-checked.ensures c.if-width-gt-WORD_LEN.false (omega arith))

pub returns-then-len-width-2 : goal.returns-then-len-width-2
returns-then-len-width-2 c = sym (cases.get_bits_past _ _ _ _ c.in_ok-checked.ensures c.if-width-gt-WORD_LEN.false (omega arith))

pub returns-then-width-eq0 : goal.returns-then-width-eq0
unfolding word
returns-then-width-eq0 c = sym (cases.get_bits_ok _ _ _ _ c.in_ok-checked.ensures c.if-width-gt-WORD_LEN.false (omega arith) ∙ ap (λ (n : ℕ). value (word 1 (λ i. bit_at c.args.words.now (c.args.pos + i)) n)) c.if-width-eq0.true)

pub window-requires : goal.window-requires
window-requires c = let v = valid c.args.words.now c.args.len c.in_ok-checked.ensures in let r = v.room in let e = c.words_for-used.ensures in omega arith

pub returns : goal.returns
returns c = ap value (c.low_bits.ensures ∙ ap (λ (y : ℕ). y % 2 ^ c.args.width) c.window.ensures ∙ narrowed c.args.words.now c.words_for-used.result c.args.pos c.args.width c.if-width-gt-WORD_LEN.false (omega arith)) ∙ sym (cases.get_bits_ok _ _ _ _ c.in_ok-checked.ensures c.if-width-gt-WORD_LEN.false (omega arith))
