-- `elias_fano_from_bits::measure::overflow_of` meets its contract: the invariant says that `overflow` counts what the blocks before j spill, and that the mark has not
-- passed the block j.
-- Assumes nothing.
use mathlib.Core.Path.{◌≡◌, sym, ap, ◌∙◌}
use Prim.Native.Nat.{ℕ, suc, ◌+◌, ◌-◌, ◌*◌, ◌/◌, ◌≤◌, ◌<◌, min}
use native.Mathlib.Numerals.{add-one}
use native.Mathlib.Omega.{arith}
use lib.ListN.{length}
use Rattle.darray_positions.specs.Index.{blocks, before}
use Rattle.darray_positions.proofs.Index as index
use Rattle.elias_fano_words.specs.Image.{high_words}
use Rattle.elias_fano_words.specs.Sizes.{high_len}
use Rattle.elias_fano_from_bits.specs.Building.{positions_of}
use Rattle.elias_fano_from_bits.specs.FromBits.{ones_of}
use Rattle.elias_fano_from_bits.proofs.Highs as highs
use Rattle.elias_fano_from_bits.proofs.Marks as marks
use Rattle.elias_fano_from_bits.proofs.measure.overflow_of.Goals as goal

pub loop-j-init : goal.loop-j-init
loop-j-init c =
    (sym (index.before_none (positions_of c.args.words.now c.args.len c.args.over_one)), marks.first_mark c.args.words.now c.args.len, marks.first_upto c.args.over_one c.args.l _)

pub spilled-overflow-requires : goal.spilled-overflow-requires
spilled-overflow-requires c =
    let there : 1024 * c.loop-j.j < c.args.n = omega (arith, c.loop-j-test.true) in
    let l = c.loop-j in
    let h = there in
    let e = c.block_size-size.ensures in
    let n = length (ones_of c.args.words.now c.args.len) in
    let r = index.rising c.args.over_one (high_words c.args.len n (ones_of c.args.words.now c.args.len)) (high_len c.args.len n) (1024 * l.j) (1024 * l.j + (c.block_size-size.result - 1)) (omega arith) (omega (arith, c.requires.2)) in
    omega (arith, c.high_place-first.ensures.at, c.high_place-last.ensures.at)

pub overflow_add-overflow : goal.overflow_add-overflow
overflow_add-overflow c =
    let next_before : c.loop-j.overflow + c.spilled-overflow.result ≡ before (positions_of c.args.words.now c.args.len c.args.over_one) (suc c.loop-j.j) = let l = c.loop-j in
    let P = positions_of c.args.words.now c.args.len c.args.over_one in
    highs.next_before P l.j _ _ _ (c.block_size-size.ensures ∙ ap (λ (y : ℕ). min 1024 (y - 1024 * l.j)) c.requires.2)
    c.high_place-first.ensures.at c.high_place-last.ensures.at _ _ l.invariant.0 c.spilled-overflow.ensures in
    let few : c.args.n ≤ 50331649 = let a = highs.few c.args.words.now c.args.len c.requires.0 c.args.over_one in omega (arith, c.requires.2) in
    let a = next_before in
    let b = index.before_le (positions_of c.args.words.now c.args.len c.args.over_one) (suc c.loop-j.j) in
    let d = few in
    omega (arith, c.requires.2)

pub loop-j-preserved : goal.loop-j-preserved
loop-j-preserved c =
    let there : 1024 * c.loop-j.j < c.args.n = omega (arith, c.loop-j-test.true) in
    let next_before : c.loop-j.overflow + c.spilled-overflow.result ≡ before (positions_of c.args.words.now c.args.len c.args.over_one) (suc c.loop-j.j) = let l = c.loop-j in
    let P = positions_of c.args.words.now c.args.len c.args.over_one in
    highs.next_before P l.j _ _ _ (c.block_size-size.ensures ∙ ap (λ (y : ℕ). min 1024 (y - 1024 * l.j)) c.requires.2)
    c.high_place-first.ensures.at c.high_place-last.ensures.at _ _ l.invariant.0 c.spilled-overflow.ensures in
    let l = c.loop-j in
    let e = c.block_size-size.ensures in
    let h = there in
    let q = c.high_place-last.ensures in (
      next_before ∙ ap (before (positions_of c.args.words.now c.args.len c.args.over_one)) (sym (add-one l.j)),
      q.marked,
      marks.upto_more c.args.over_one c.args.l c.high_place-last.result.mark (1024 * l.j + (c.block_size-size.result - 1)) (1024 * (l.j + 1)) (omega arith) q.upto,
    )

pub returns : goal.returns
unfolding blocks
returns c =
    let l = c.loop-j in
    l.invariant.0 ∙ ap (before (positions_of c.args.words.now c.args.len c.args.over_one)) (let e : l.j ≡ (c.args.n + 1023) / 1024 = omega (arith, c.loop-j-test.false) in e ∙ ap (λ (m : ℕ). (m + 1023) / 1024) c.requires.2)
