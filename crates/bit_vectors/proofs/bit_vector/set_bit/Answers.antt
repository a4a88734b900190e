-- `bit_vectors::bit_vector::set_bit` meets its contract.
-- Assumes nothing.
use Rattle.std.specs.Prelude.{Result, ⊤}
use Rattle.errors.specs.declared.Refusal.{Refusal}
use Rattle.errors.specs.Answer.{leaves, of_done}
use Rattle.bit_words.proofs.Valid.{refused_bits}
use mathlib.Core.Path.{sym, ap, ◌∙◌}
use Prim.Native.Nat.{ℕ, ◌/◌}
use native.Mathlib.Omega.{arith}
use lib.ListN.{set}
use Rattle.errors.specs.Answer.{done, leaves}
use Rattle.bit_vectors.proofs.Cases as cases
use Rattle.bit_words.proofs.Valid.{valid}
use Rattle.bit_vectors.proofs.bit_vector.set_bit.Goals as goal

pub returns-in_err-checked : goal.returns-in_err-checked
returns-in_err-checked c = ap (λ (r : Result ⊤ Refusal). leaves (of_done r) c.args.words.now) (refused_bits _ _ c.from_residual.ensures.1 c.in_err-checked.ensures.0) ∙ sym (cases.set-bit_13 _ _ _ _ c.in_err-checked.ensures.1)

pub returns-then-len-pos : goal.returns-then-len-pos
returns-then-len-pos c = sym (cases.set-bit_16 _ _ _ _ c.in_ok-checked.ensures c.if-len-pos.true)

pub bounds-words-at : goal.bounds-words-at
bounds-words-at c = let v = valid c.args.words.now c.args.len c.in_ok-checked.ensures in let r = v.room in omega arith

pub bounds-words-at-2 : goal.bounds-words-at-2
bounds-words-at-2 c = let v = valid c.args.words.now c.args.len c.in_ok-checked.ensures in let r = v.room in omega arith

pub returns : goal.returns
returns c = ap (λ (w : ℕ). leaves done (set c.args.words.now (c.args.pos / 64) w)) c.with_bit.ensures ∙ sym (cases.set-bit_ok _ _ _ _ c.in_ok-checked.ensures c.if-len-pos.false)
