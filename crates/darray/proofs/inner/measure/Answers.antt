-- `darray::inner::measure` meets its contract.
-- Assumes nothing.
use Rattle.darray.specs.Queries.{of_measured}
use Rattle.bit_words.proofs.Valid.{refused_bits}
use mathlib.Core.Path.{ap, sym, ◌∙◌}
use Rattle.bit_words.proofs.Valid.{valid}
use Rattle.darray.proofs.Cases as cases
use Rattle.darray.proofs.inner.measure.Goals as goal

pub returns-in_err-checked : goal.returns-in_err-checked
returns-in_err-checked c = ap of_measured (refused_bits _ _ c.from_residual.ensures.1 c.in_err-checked.ensures.0) ∙ sym (cases.measure_13 _ _ _ c.in_err-checked.ensures.1)

pub returns-then-len-ge-MAX_LEN : goal.returns-then-len-ge-MAX_LEN
returns-then-len-ge-MAX_LEN c = sym (cases.measure_2 _ _ _ c.in_ok-checked.ensures c.if-len-ge-MAX_LEN.true)

pub sizes_of-requires : goal.sizes_of-requires
sizes_of-requires c = ((valid _ _ c.in_ok-checked.ensures).room, c.if-len-ge-MAX_LEN.false)

pub returns : goal.returns
returns c = sym (cases.measure_ok _ _ _ c.in_ok-checked.ensures c.if-len-ge-MAX_LEN.false c.sizes_of.result c.sizes_of.ensures)
