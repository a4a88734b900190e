-- `bit_vectors::bit_vector::push_bits` meets its contract.
-- Assumes nothing.
use Rattle.std.specs.Prelude.{Result}
use Rattle.errors.specs.declared.Refusal.{Refusal}
use Rattle.errors.specs.Answer.{leaves, of_result}
use Rattle.bit_words.proofs.Valid.{refused_bits}
use mathlib.Core.Path.{sym, ap, ◌∙◌, subst}
use Prim.Native.Nat.{ℕ, ◌+◌, ◌^◌, ◌<◌}
use native.Mathlib.Nat.{mod-lt}
use native.Mathlib.Omega.{arith}
use mathlib.Core.List.{List}
use lib.Pow.{pow_pos}
use Rattle.errors.specs.Answer.{value, leaves}
use Rattle.bit_words.specs.Vector.{appended}
use Rattle.bit_vectors.proofs.Cases as cases
use Rattle.bit_words.proofs.Packed.{push_nothing}
use Rattle.bit_words.proofs.Valid.{valid}
use Rattle.bit_vectors.proofs.bit_vector.push_bits.Goals as goal

pub returns-in_err-checked : goal.returns-in_err-checked
returns-in_err-checked c = ap (λ (r : Result ℕ Refusal). leaves (of_result r) c.args.words.now) (refused_bits _ _ c.from_residual.ensures.1 c.in_err-checked.ensures.0) ∙ sym (cases.push_13 _ _ _ _ c.in_err-checked.ensures.1)

pub returns-then-width-gt-WORD_LEN : goal.returns-then-width-gt-WORD_LEN
returns-then-width-gt-WORD_LEN c = sym (cases.push_14 _ _ _ _ c.in_ok-checked.ensures c.if-width-gt-WORD_LEN.true)

pub returns-then-len-width : goal.returns-then-len-width
returns-then-len-width c = let l = c.ranges.len.fits in sym (cases.push_15_long _ _ _ _ c.in_ok-checked.ensures c.if-width-gt-WORD_LEN.false (omega arith))

pub returns-then-words-used : goal.returns-then-words-used
returns-then-words-used c = let e = c.words_for-used.ensures in sym (cases.push_15_full _ _ _ _ c.in_ok-checked.ensures c.if-width-gt-WORD_LEN.false (omega arith) (omega arith))

pub returns-then-width-eq0 : goal.returns-then-width-eq0
returns-then-width-eq0 c = let v = valid c.args.words.now c.args.len c.in_ok-checked.ensures in let e = c.words_for-used.ensures in let l = c.ranges.len.fits in sym (cases.push_ok _ _ _ _ c.in_ok-checked.ensures c.if-width-gt-WORD_LEN.false (omega arith) (omega arith) ∙ push_nothing c.args.words.now c.args.len c.args.bits c.args.width (λ i. (c.slice_known-1.given i).fits) v.room c.if-width-eq0.true)

pub append-requires : goal.append-requires
append-requires c =
    let v = valid c.args.words.now c.args.len c.in_ok-checked.ensures in
    let e = c.words_for-used.ensures in
    record {
      some = omega arith;
      few = c.if-width-gt-WORD_LEN.false;
      small = subst (λ (y : ℕ). y < 2 ^ c.args.width) (sym c.low_bits.ensures) (mod-lt c.args.bits (pow_pos c.args.width));
      room = omega arith;
      clear = v.clear;
    }

pub returns : goal.returns
returns c = let e = c.words_for-used.ensures in let l = c.ranges.len.fits in ap (λ (l : List ℕ). leaves (value (c.args.len + c.args.width)) l) (c.append.ensures ∙ ap (λ (x : ℕ). appended c.args.words.now c.args.len x c.args.width) c.low_bits.ensures) ∙ sym (cases.push_ok _ _ _ _ c.in_ok-checked.ensures c.if-width-gt-WORD_LEN.false (omega arith) (omega arith))
