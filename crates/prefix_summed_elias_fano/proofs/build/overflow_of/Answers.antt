-- `prefix_summed_elias_fano::build::overflow_of` meets its contract: the invariant says that `overflow` counts what the blocks before j spill.
-- Assumes nothing.
use mathlib.Core.Path.{◌≡◌, sym, ap, ap₂, ◌∙◌}
use mathlib.Core.Bool.{true}
use Prim.Native.Nat.{ℕ, suc, ◌+◌, ◌*◌, ◌/◌, ◌<◌}
use native.Mathlib.Numerals.{add-one}
use native.Mathlib.Omega.{arith}
use lib.ListN.{length, take}
use Rattle.darray_positions.specs.Index.{blocks, before, spill}
use Rattle.darray_positions.proofs.Index as index
use Rattle.elias_fano_words.specs.Image.{high_positions}
use Rattle.prefix_summed_elias_fano.specs.Sums.{sum as sum_of, sums}
use Rattle.prefix_summed_elias_fano.proofs.Sums as sums-law
use Rattle.prefix_summed_elias_fano.proofs.Blocks as block
use Rattle.prefix_summed_elias_fano.proofs.Filing as filing
use Rattle.prefix_summed_elias_fano.proofs.build.overflow_of.Goals as goal

pub loop-j-init : goal.loop-j-init
loop-j-init c = (omega arith, sym (index.before_none _), sym sums-law.sum_none)

pub overflow_mul-k : goal.overflow_mul-k
overflow_mul-k c =
    let there : 1024 * c.loop-j.j < length c.args.items.now = omega (arith, c.loop-j-test.true) in
    let h = there in omega (arith, c.requires.0.most)

pub block_size-size-requires : goal.block_size-size-requires
block_size-size-requires c =
    let there : 1024 * c.loop-j.j < length c.args.items.now = omega (arith, c.loop-j-test.true) in
    let h = there in omega arith

pub overflow_add-k : goal.overflow_add-k
overflow_add-k c =
    let there : 1024 * c.loop-j.j < length c.args.items.now = omega (arith, c.loop-j-test.true) in
    let h = there in omega (arith, c.requires.0.most)

pub add_up-first-requires : goal.add_up-first-requires
add_up-first-requires c =
    let there : 1024 * c.loop-j.j < length c.args.items.now = omega (arith, c.loop-j-test.true) in
    let h = there in record { order = omega arith; upto = omega arith; before = c.loop-j.invariant.2; small = omega (arith, c.requires.0.small) }

pub overflow_add-k-in-loop-j : goal.overflow_add-k-in-loop-j
overflow_add-k-in-loop-j c =
    let there : 1024 * c.loop-j.j < length c.args.items.now = omega (arith, c.loop-j-test.true) in
    let h = there in omega (arith, c.requires.0.most)

pub overflow_add-k-in-loop-j-2 : goal.overflow_add-k-in-loop-j-2
overflow_add-k-in-loop-j-2 c =
    let there : 1024 * c.loop-j.j < length c.args.items.now = omega (arith, c.loop-j-test.true) in
    let h = there in let e = c.block_size-size.ensures in omega (arith, c.requires.0.most)

pub add_up-last-requires : goal.add_up-last-requires
add_up-last-requires c =
    let there : 1024 * c.loop-j.j < length c.args.items.now = omega (arith, c.loop-j-test.true) in
    let h = there in let e = c.block_size-size.ensures in record { order = omega arith; upto = omega arith; before = c.add_up-first.ensures; small = omega (arith, c.requires.0.small) }

pub overflow_shr-first : goal.overflow_shr-first
overflow_shr-first c = block.low_small c.args.items.now c.requires.0 c.args.l c.requires.1

pub overflow_add-first : goal.overflow_add-first
overflow_add-first c =
    let there : 1024 * c.loop-j.j < length c.args.items.now = omega (arith, c.loop-j-test.true) in
    let h = there in let e = c.block_size-size.ensures in let a = block.high_small c.args.items.now c.requires.0 c.args.l c.requires.1 (1024 * c.loop-j.j + 1) _ c.add_up-first.ensures in omega (arith, c.requires.0.most)

pub overflow_shr-last : goal.overflow_shr-last
overflow_shr-last c = block.low_small c.args.items.now c.requires.0 c.args.l c.requires.1

pub overflow_sub-size : goal.overflow_sub-size
overflow_sub-size c =
    let there : 1024 * c.loop-j.j < length c.args.items.now = omega (arith, c.loop-j-test.true) in
    let h = there in let e = c.block_size-size.ensures in omega arith

pub overflow_add-k-in-loop-j-3 : goal.overflow_add-k-in-loop-j-3
overflow_add-k-in-loop-j-3 c =
    let there : 1024 * c.loop-j.j < length c.args.items.now = omega (arith, c.loop-j-test.true) in
    let h = there in let e = c.block_size-size.ensures in omega (arith, c.requires.0.most)

pub overflow_add-last : goal.overflow_add-last
overflow_add-last c =
    let there : 1024 * c.loop-j.j < length c.args.items.now = omega (arith, c.loop-j-test.true) in
    let h = there in let e = c.block_size-size.ensures in let a = block.high_small c.args.items.now c.requires.0 c.args.l c.requires.1 (1024 * c.loop-j.j + c.block_size-size.result) _ c.add_up-last.ensures in omega (arith, c.requires.0.most)

pub spilled-overflow-requires : goal.spilled-overflow-requires
spilled-overflow-requires c =
    let there : 1024 * c.loop-j.j < length c.args.items.now = omega (arith, c.loop-j-test.true) in
    block.span_rises c.args.items.now c.loop-j.j (there) c.args.l c.requires.1 _ _ _ c.block_size-size.ensures c.add_up-first.ensures c.add_up-last.ensures

pub overflow_add-overflow : goal.overflow_add-overflow
overflow_add-overflow c =
    let there : 1024 * c.loop-j.j < length c.args.items.now = omega (arith, c.loop-j-test.true) in
    let next_before : c.loop-j.overflow + c.spilled-overflow.result ≡ before (high_positions (suc (sum_of c.args.items.now)) (length c.args.items.now) true (sums c.args.items.now)) (c.loop-j.j + 1) = let A = c.args.items.now in
    let l = c.loop-j in
    let P = high_positions (suc (sum_of A)) (length A) true (sums A) in
    let e : c.spilled-overflow.result ≡ spill P l.j =
    c.spilled-overflow.ensures ∙ block.share_is A l.j (there) c.args.l c.requires.1 _ _ _ c.block_size-size.ensures c.add_up-first.ensures c.add_up-last.ensures in
    ap₂ (λ (x y : ℕ). x + y) l.invariant.1 e ∙ sym (ap (before P) (add-one l.j) ∙ index.before_next P l.j) in
    let a = next_before in let b = block.before_small c.args.items.now (c.loop-j.j + 1) in omega (arith, c.requires.0.most)

pub loop-j-preserved : goal.loop-j-preserved
loop-j-preserved c =
    let there : 1024 * c.loop-j.j < length c.args.items.now = omega (arith, c.loop-j-test.true) in
    let next_before : c.loop-j.overflow + c.spilled-overflow.result ≡ before (high_positions (suc (sum_of c.args.items.now)) (length c.args.items.now) true (sums c.args.items.now)) (c.loop-j.j + 1) = let A = c.args.items.now in
    let l = c.loop-j in
    let P = high_positions (suc (sum_of A)) (length A) true (sums A) in
    let e : c.spilled-overflow.result ≡ spill P l.j =
    c.spilled-overflow.ensures ∙ block.share_is A l.j (there) c.args.l c.requires.1 _ _ _ c.block_size-size.ensures c.add_up-first.ensures c.add_up-last.ensures in
    ap₂ (λ (x y : ℕ). x + y) l.invariant.1 e ∙ sym (ap (before P) (add-one l.j) ∙ index.before_next P l.j) in
    let l = c.loop-j in (omega (arith, c.loop-j-test.true), next_before, c.add_up-last.ensures ∙ ap (λ (z : ℕ). sum_of (take (1024 * l.j + z) c.args.items.now)) c.block_size-size.ensures ∙ block.up_to_next c.args.items.now l.j (there))

pub returns : goal.returns
unfolding blocks
returns c = let l = c.loop-j in l.invariant.1 ∙ ap (before (high_positions (suc (sum_of c.args.items.now)) (length c.args.items.now) true (sums c.args.items.now))) (let e : l.j ≡ (length c.args.items.now + 1023) / 1024 = omega (arith, c.loop-j-test.false, l.invariant.0) in e ∙ ap (λ (m : ℕ). (m + 1023) / 1024) (sym (filing.positions_many c.args.items.now c.requires.0)))
