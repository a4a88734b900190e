-- `elias_fano_from_bits::build::from_bits` meets its contract.
-- Assumes nothing.
use Rattle.std.specs.Prelude.{ℕ, Result}
use mathlib.Core.Path.{◌≡◌, sym, ap, ◌∙◌}
use native.Mathlib.Nat.{pos_of_ne-zero}
use lib.ListN.{length}
use Rattle.errors.specs.declared.Refusal.{Refusal}
use Rattle.errors.specs.Answer.{leaves, of_result}
use Rattle.bit_words.proofs.Valid.{refused_bits, valid}
use Rattle.elias_fano_from_bits.specs.FromBits.{ones_of}
use Rattle.elias_fano_from_bits.proofs.Cases as cases
use Rattle.elias_fano_from_bits.proofs.Ones as ones
use Rattle.elias_fano_from_bits.proofs.build.from_bits.Goals as goal

pub returns-in_err-checked : goal.returns-in_err-checked
returns-in_err-checked c =
    ap (λ (r : Result ℕ Refusal). leaves (of_result r) c.args.buffer.now) (refused_bits _ _ c.from_residual.ensures.1 c.in_err-checked.ensures.0)
    ∙ cases.bits_13 c.args.words.now c.args.len c.args.rank c.args.buffer.now c.in_err-checked.ensures.1

pub returns-then-len-eq0 : goal.returns-then-len-eq0
returns-then-len-eq0 c = cases.bits_10 c.args.words.now c.args.len c.args.rank c.args.buffer.now c.in_ok-checked.ensures c.if-len-eq0.true

pub count_positions-n-requires : goal.count_positions-n-requires
count_positions-n-requires c = (valid c.args.words.now c.args.len c.in_ok-checked.ensures).room

pub returns-then-n-eq0 : goal.returns-then-n-eq0
returns-then-n-eq0 c =
    let counted : c.count_positions-n.result ≡ length (ones_of c.args.words.now c.args.len) = c.count_positions-n.ensures ∙ sym (ones.many c.args.words.now c.args.len) in
    cases.bits_11 c.args.words.now c.args.len c.args.rank c.args.buffer.now c.in_ok-checked.ensures c.if-len-eq0.false (sym (counted) ∙ c.if-n-eq0.true)

pub from_ones-requires : goal.from_ones-requires
from_ones-requires c =
    let counted : c.count_positions-n.result ≡ length (ones_of c.args.words.now c.args.len) = c.count_positions-n.ensures ∙ sym (ones.many c.args.words.now c.args.len) in
    record { valid = c.in_ok-checked.ensures; number = counted; some = pos_of_ne-zero c.if-n-eq0.false }

pub returns : goal.returns
returns c =
    let counted : c.count_positions-n.result ≡ length (ones_of c.args.words.now c.args.len) = c.count_positions-n.ensures ∙ sym (ones.many c.args.words.now c.args.len) in
    c.from_ones.ensures
    ∙ cases.bits_ones c.args.words.now c.args.len c.args.rank c.args.buffer.now c.in_ok-checked.ensures c.if-len-eq0.false
    (λ e. c.if-n-eq0.false (counted ∙ e))
