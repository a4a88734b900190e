-- `darray::inner::validate` meets its contract.
-- Assumes nothing.
use Rattle.errors.specs.Answer.{of_truth}
use Rattle.bit_words.proofs.Valid.{refused_bits}
use mathlib.Core.Path.{sym, ap, ◌∙◌}
use mathlib.Core.Bool.{Bool}
use Rattle.errors.specs.Answer.{value}
use Rattle.broadword.specs.Fields.{flag}
use Rattle.bit_words.proofs.Valid.{valid}
use Rattle.darray_positions.specs.Positions.{positions}
use Rattle.darray_positions.specs.Index.{index_words}
use Rattle.darray.proofs.Cases as cases
use Rattle.darray.proofs.Matching as matching
use Rattle.darray.proofs.inner.validate.Goals as goal

pub returns-in_err-checked : goal.returns-in_err-checked
returns-in_err-checked c = ap of_truth (refused_bits _ _ c.from_residual.ensures.1 c.in_err-checked.ensures.0) ∙ sym (cases.validate_13 _ _ _ _ c.in_err-checked.ensures.1)

pub returns-then-len-ge-MAX_LEN : goal.returns-then-len-ge-MAX_LEN
returns-then-len-ge-MAX_LEN c = sym (cases.validate_2 _ _ _ _ c.in_ok-checked.ensures c.if-len-ge-MAX_LEN.true)

pub count_positions-n-requires : goal.count_positions-n-requires
count_positions-n-requires c = (valid _ _ c.in_ok-checked.ensures).room

pub is_index-requires : goal.is_index-requires
is_index-requires c = ((valid _ _ c.in_ok-checked.ensures).room, c.if-len-ge-MAX_LEN.false, c.count_positions-n.ensures)

pub returns : goal.returns
returns c =
    let a = c.args in
    let I = index_words (positions a.over_one a.words.now a.len) in
    ap (λ (r : Bool). value (flag r)) (matching.same_is c.is_index.result a.index.now I c.is_index.ensures)
    ∙ sym (cases.validate_ok _ _ _ _ c.in_ok-checked.ensures c.if-len-ge-MAX_LEN.false)
