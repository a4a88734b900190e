-- `darray_positions::scan::full_blocks` meets its contract: the invariant says that `overflow` counts what the blocks before j spill, and that they end before
-- the word `end`.
-- Assumes nothing.
use mathlib.Core.Path.{◌≡◌, refl}
use Prim.Native.Nat.{◌+◌, ◌*◌, ◌/◌, ◌≤◌, ◌<◌}
use native.Mathlib.Omega.{arith}
use Rattle.broadword.specs.Bits.{count}
use Rattle.broadword.proofs.Count.{count_mono}
use Rattle.bit_words.specs.Vector.{bit_over}
use Rattle.darray_positions.specs.Positions.{positions}
use Rattle.darray_positions.specs.Index.{before}
use Rattle.darray_positions.proofs.Blocks as block
use Rattle.darray_positions.proofs.Counts as scan
use Rattle.darray_positions.proofs.Index as index
use Rattle.darray_positions.proofs.scan.full_blocks.Goals as goal

pub loop-first-init : goal.loop-first-init
unfolding before count
loop-first-init c = (refl, record { counted = refl; to_come = omega arith }, omega arith, omega arith)

pub overflow_mul-k : goal.overflow_mul-k
overflow_mul-k c =
    let few : 1024 * c.loop-first.j ≤ c.args.len = let a = c.args in
    omega (arith, c.loop-first.invariant.3, scan.count_few a.over_one a.words.now (a.len / 64 * 64)) in
    omega (arith, few, c.requires.1)

pub overflow_add-k : goal.overflow_add-k
overflow_add-k c =
    let few : 1024 * c.loop-first.j ≤ c.args.len = let a = c.args in
    omega (arith, c.loop-first.invariant.3, scan.count_few a.over_one a.words.now (a.len / 64 * 64)) in
    omega (arith, few, c.requires.1)

pub overflow_add-k-in-loop-first : goal.overflow_add-k-in-loop-first
overflow_add-k-in-loop-first c =
    let few : 1024 * c.loop-first.j ≤ c.args.len = let a = c.args in
    omega (arith, c.loop-first.invariant.3, scan.count_few a.over_one a.words.now (a.len / 64 * 64)) in
    omega (arith, few, c.requires.1)

pub spilled-overflow-requires : goal.spilled-overflow-requires
spilled-overflow-requires c = block.position_le _ _ _ _ _ c.place_at.ensures c.place_at-in-loop-first.ensures (omega arith)

pub overflow_add-overflow : goal.overflow_add-overflow
overflow_add-overflow c =
    let ends : c.seek-last.result.word < c.args.len / 64 = omega (arith, c.if-last-end.false, c.seek-last.ensures.upto) in
    let there : 1024 * c.loop-first.j + 1023 < count (bit_over c.args.over_one c.args.words.now) (c.args.len / 64 * 64) = scan.reached_below c.args.over_one c.args.words.now (λ i. (c.shared_slice_known-1.given i).fits)
    c.seek-first.result c.seek-last.result (1024 * c.loop-first.j + 1023) (c.args.len / 64)
    c.seek-last.ensures (ends) in
    let next : c.loop-first.overflow + c.spilled-overflow.result ≡ before (positions c.args.over_one c.args.words.now c.args.len) (c.loop-first.j + 1) = let a = c.args in
    let l = c.loop-first in
    block.full_next a.over_one a.words.now a.len l.j (omega (arith, there, count_mono (bit_over a.over_one a.words.now) (a.len / 64 * 64) a.len (omega arith)))
    c.place_at.result c.place_at-in-loop-first.result c.place_at.ensures c.place_at-in-loop-first.ensures
    c.seek-last.result c.seek-last.ensures.ahead
    l.overflow c.spilled-overflow.result l.invariant.0 c.spilled-overflow.ensures in
    let P = positions c.args.over_one c.args.words.now c.args.len in
    omega (arith, next, index.before_le P (c.loop-first.j + 1), block.length_is c.args.over_one c.args.words.now c.args.len _ refl, scan.count_few c.args.over_one c.args.words.now c.args.len, c.requires.1)

pub overflow_add-j : goal.overflow_add-j
overflow_add-j c =
    let ends : c.seek-last.result.word < c.args.len / 64 = omega (arith, c.if-last-end.false, c.seek-last.ensures.upto) in
    let there : 1024 * c.loop-first.j + 1023 < count (bit_over c.args.over_one c.args.words.now) (c.args.len / 64 * 64) = scan.reached_below c.args.over_one c.args.words.now (λ i. (c.shared_slice_known-1.given i).fits)
    c.seek-first.result c.seek-last.result (1024 * c.loop-first.j + 1023) (c.args.len / 64)
    c.seek-last.ensures (ends) in
    let more : 1024 * (c.loop-first.j + 1) ≤ count (bit_over c.args.over_one c.args.words.now) (c.args.len / 64 * 64) = omega (arith, there) in
    let a = c.args in omega (arith, more, scan.count_few a.over_one a.words.now (a.len / 64 * 64))

pub loop-first-smaller : goal.loop-first-smaller
loop-first-smaller c =
    let ends : c.seek-last.result.word < c.args.len / 64 = omega (arith, c.if-last-end.false, c.seek-last.ensures.upto) in
    let there : 1024 * c.loop-first.j + 1023 < count (bit_over c.args.over_one c.args.words.now) (c.args.len / 64 * 64) = scan.reached_below c.args.over_one c.args.words.now (λ i. (c.shared_slice_known-1.given i).fits)
    c.seek-first.result c.seek-last.result (1024 * c.loop-first.j + 1023) (c.args.len / 64)
    c.seek-last.ensures (ends) in
    let more : 1024 * (c.loop-first.j + 1) ≤ count (bit_over c.args.over_one c.args.words.now) (c.args.len / 64 * 64) = omega (arith, there) in
    let a = c.args in omega (arith, more, scan.count_few a.over_one a.words.now (a.len / 64 * 64))

pub loop-first-preserved : goal.loop-first-preserved
loop-first-preserved c =
    let ends : c.seek-last.result.word < c.args.len / 64 = omega (arith, c.if-last-end.false, c.seek-last.ensures.upto) in
    let there : 1024 * c.loop-first.j + 1023 < count (bit_over c.args.over_one c.args.words.now) (c.args.len / 64 * 64) = scan.reached_below c.args.over_one c.args.words.now (λ i. (c.shared_slice_known-1.given i).fits)
    c.seek-first.result c.seek-last.result (1024 * c.loop-first.j + 1023) (c.args.len / 64)
    c.seek-last.ensures (ends) in
    let next : c.loop-first.overflow + c.spilled-overflow.result ≡ before (positions c.args.over_one c.args.words.now c.args.len) (c.loop-first.j + 1) = let a = c.args in
    let l = c.loop-first in
    block.full_next a.over_one a.words.now a.len l.j (omega (arith, there, count_mono (bit_over a.over_one a.words.now) (a.len / 64 * 64) a.len (omega arith)))
    c.place_at.result c.place_at-in-loop-first.result c.place_at.ensures c.place_at-in-loop-first.ensures
    c.seek-last.result c.seek-last.ensures.ahead
    l.overflow c.spilled-overflow.result l.invariant.0 c.spilled-overflow.ensures in
    let more : 1024 * (c.loop-first.j + 1) ≤ count (bit_over c.args.over_one c.args.words.now) (c.args.len / 64 * 64) = omega (arith, there) in
    (next, block.ahead_le _ _ _ _ (omega arith) c.seek-last.ensures.ahead, c.seek-last.ensures.upto, more)
