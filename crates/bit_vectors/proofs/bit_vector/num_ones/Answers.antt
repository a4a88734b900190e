-- `bit_vectors::bit_vector::num_ones` meets its contract.
-- Assumes nothing.
use Rattle.errors.specs.Answer.{of_result}
use Rattle.bit_words.proofs.Valid.{refused_bits}
use mathlib.Core.Path.{sym, ap, ◌∙◌}
use native.Mathlib.Omega.{arith}
use Rattle.errors.specs.Answer.{value}
use Rattle.bit_vectors.proofs.Cases as cases
use Rattle.bit_words.proofs.Valid.{valid}
use Rattle.bit_vectors.proofs.bit_vector.num_ones.Goals as goal

pub returns-in_err-checked : goal.returns-in_err-checked
returns-in_err-checked c = ap of_result (refused_bits _ _ c.from_residual.ensures.1 c.in_err-checked.ensures.0) ∙ sym (cases.num_ones_13 _ _ c.in_err-checked.ensures.1)

pub rank_words-requires : goal.rank_words-requires
rank_words-requires c = let v = valid c.args.words.now c.args.len c.in_ok-checked.ensures in let r = v.room in omega arith

pub returns : goal.returns
returns c = ap value c.rank_words.ensures ∙ sym (cases.num_ones_ok _ _ c.in_ok-checked.ensures)
