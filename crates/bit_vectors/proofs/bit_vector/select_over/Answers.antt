-- `bit_vectors::bit_vector::select_over` meets its contract.
-- Assumes nothing.
use Rattle.errors.specs.Answer.{of_optional}
use Rattle.bit_words.proofs.Valid.{refused_bits}
use Rattle.std.specs.Prelude.{Some, None}
use mathlib.Core.Path.{sym, ap, ◌∙◌}
use Prim.Native.Nat.{ℕ, ◌*◌}
use native.Mathlib.Omega.{arith}
use Rattle.broadword.specs.Places.{select}
use Rattle.bit_words.specs.Vector.{bit_over}
use Rattle.bit_vectors.proofs.Cases as cases
use Rattle.bit_words.proofs.Runs.{bit_over_le, from_first, narrow_in, narrow_past, narrow_none, select_empty}
use Rattle.bit_words.proofs.Valid.{valid}
use Rattle.bit_vectors.proofs.bit_vector.select_over.Goals as goal

pub returns-in_err-checked : goal.returns-in_err-checked
returns-in_err-checked c = ap of_optional (refused_bits _ _ c.from_residual.ensures.1 c.in_err-checked.ensures.0) ∙ sym (cases.select_13 _ _ _ _ c.in_err-checked.ensures.1)

pub returns-then-len-eq0 : goal.returns-then-len-eq0
returns-then-len-eq0 c = sym (cases.select_ok _ _ _ _ None c.in_ok-checked.ensures (select_empty (bit_over c.args.over_one c.args.words.now) c.args.len c.args.k c.if-len-eq0.true))

pub find_from-requires : goal.find_from-requires
find_from-requires c = let v = valid c.args.words.now c.args.len c.in_ok-checked.ensures in let r = v.room in let e = c.words_for-used.ensures in record { start = omega arith; room = omega arith; few = omega arith }

pub returns-in_default : goal.returns-in_default
returns-in_default c = let e = c.words_for-used.ensures in sym (cases.select_ok _ _ _ _ None c.in_ok-checked.ensures (narrow_none (bit_over c.args.over_one c.args.words.now) (bit_over_le c.args.over_one c.args.words.now) (c.words_for-used.result * 64) c.args.len c.args.k (sym (c.find_from.ensures ∙ ap (λ (j : ℕ). select (bit_over c.args.over_one c.args.words.now) (c.words_for-used.result * 64) j) (from_first (bit_over c.args.over_one c.args.words.now) c.args.k)) ∙ c.in_default.is) (omega arith)))

pub returns-then-place-len : goal.returns-then-place-len
returns-then-place-len c = sym (cases.select_ok _ _ _ _ (Some c.in-Some.place) c.in_ok-checked.ensures (narrow_in (bit_over c.args.over_one c.args.words.now) (bit_over_le c.args.over_one c.args.words.now) (c.words_for-used.result * 64) c.args.len c.args.k c.in-Some.place (sym (c.find_from.ensures ∙ ap (λ (j : ℕ). select (bit_over c.args.over_one c.args.words.now) (c.words_for-used.result * 64) j) (from_first (bit_over c.args.over_one c.args.words.now) c.args.k)) ∙ c.in-Some.is) c.if-place-len.true))

pub returns-else-place-len : goal.returns-else-place-len
returns-else-place-len c = sym (cases.select_ok _ _ _ _ None c.in_ok-checked.ensures (narrow_past (bit_over c.args.over_one c.args.words.now) (bit_over_le c.args.over_one c.args.words.now) (c.words_for-used.result * 64) c.args.len c.args.k c.in-Some.place (sym (c.find_from.ensures ∙ ap (λ (j : ℕ). select (bit_over c.args.over_one c.args.words.now) (c.words_for-used.result * 64) j) (from_first (bit_over c.args.over_one c.args.words.now) c.args.k)) ∙ c.in-Some.is) c.if-place-len.false))
