-- `darray::inner::sizes_of` meets its contract.
-- Assumes nothing.
use mathlib.Core.Path.{◌≡◌, ap, ◌∙◌, subst⁻¹}
use Prim.Native.Nat.{ℕ, ◌+◌, ◌^◌, ◌<◌}
use native.Mathlib.Omega.{arith}
use Rattle.broadword.specs.Bits.{count}
use Rattle.bit_words.specs.Vector.{bit_over}
use Rattle.darray_positions.specs.Positions.{positions}
use Rattle.darray_positions.proofs.Blocks as block
use Rattle.darray_positions.proofs.Counts as scan
use Rattle.darray.specs.Sizes.{Sized}
use Rattle.darray.proofs.Building as building
use Rattle.darray.proofs.inner.sizes_of.Goals as goal

pub overflow_add-n : goal.overflow_add-n
overflow_add-n c =
    let all : c.full_blocks-full.result.positions + c.tail_positions.result ≡ count (bit_over c.args.over_one c.args.words.now) c.args.len = ap (λ (n : ℕ). n + c.tail_positions.result) c.full_blocks-full.ensures.counted ∙ c.tail_positions.ensures in
    let few : c.full_blocks-full.result.positions + c.tail_positions.result < 2 ^ 63 = omega (arith, all, scan.count_few c.args.over_one c.args.words.now c.args.len, c.requires.1) in
    omega (arith, few)

pub sizes_by-requires : goal.sizes_by-requires
sizes_by-requires c =
    let all : c.full_blocks-full.result.positions + c.tail_positions.result ≡ count (bit_over c.args.over_one c.args.words.now) c.args.len = ap (λ (n : ℕ). n + c.tail_positions.result) c.full_blocks-full.ensures.counted ∙ c.tail_positions.ensures in
    let few : c.full_blocks-full.result.positions + c.tail_positions.result < 2 ^ 63 = omega (arith, all, scan.count_few c.args.over_one c.args.words.now c.args.len, c.requires.1) in
    few

pub returns : goal.returns
returns c =
    let all : c.full_blocks-full.result.positions + c.tail_positions.result ≡ count (bit_over c.args.over_one c.args.words.now) c.args.len = ap (λ (n : ℕ). n + c.tail_positions.result) c.full_blocks-full.ensures.counted ∙ c.tail_positions.ensures in
    let a = c.args in
    let P = positions a.over_one a.words.now a.len in
    let e = block.length_is a.over_one a.words.now a.len _ (all) in
    subst⁻¹ (Sized P) c.sizes_by.ensures (building.by_sized P _ _ e c.overflow_of.ensures)
