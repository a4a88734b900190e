-- `elias_fano_queries::rank::halve_bucket` meets its contract.
-- Assumes nothing.
use Prim.Native.Nat.{◌+◌, ◌-◌, ◌/◌}
use native.Mathlib.Nat.{le_refl}
use native.Mathlib.Omega.{arith}
use Rattle.elias_fano.proofs.Selecting as selecting
use Rattle.elias_fano_queries.proofs.Ranking as ranking
use Rattle.elias_fano_queries.proofs.rank.halve_bucket.Goals as goal

pub low_bits-low-requires : goal.low_bits-low-requires
low_bits-low-requires c = let a = selecting.low_small c.args.image.now.words.now c.args.image.now.ok c.args.image.now.parts c.args.image.now.right in omega arith

pub loop-from-init : goal.loop-from-init
loop-from-init c = (le_refl c.args.first, omega (arith, c.requires.0, ranking.first_le c.args.image.now.words.now c.args.image.now.parts (record { ok = c.args.image.now.ok; parts = c.args.image.now.right }) c.args.val), ranking.begins c.args.image.now.words.now c.args.image.now.parts (record { ok = c.args.image.now.ok; parts = c.args.image.now.right }) c.args.val c.args.end c.requires.1, le_refl c.args.end)

pub overflow_add-mid : goal.overflow_add-mid
overflow_add-mid c = omega (arith, c.loop-from.invariant.3)

pub low_of-requires : goal.low_of-requires
low_of-requires c = (omega (arith, c.loop-from-test.true, c.loop-from.invariant.3, ranking.end_le c.args.image.now.words.now c.args.image.now.parts (record { ok = c.args.image.now.ok; parts = c.args.image.now.right }) c.args.val c.args.end c.requires.1))

pub overflow_add-from : goal.overflow_add-from
overflow_add-from c = omega arith

pub loop-from-smaller-then-low_of-low : goal.loop-from-smaller-then-low_of-low
loop-from-smaller-then-low_of-low c = omega arith

pub loop-from-preserved-then-low_of-low : goal.loop-from-preserved-then-low_of-low
loop-from-preserved-then-low_of-low c = (omega (arith, c.loop-from.invariant.0), ranking.up c.args.image.now.words.now c.args.image.now.parts (record { ok = c.args.image.now.ok; parts = c.args.image.now.right }) c.args.val c.args.end c.requires.1 c.args.first c.requires.0 (c.loop-from.from + (c.loop-from.to - c.loop-from.from) / 2) (omega (arith, c.loop-from.invariant.0)) (omega (arith, c.loop-from-test.true, c.loop-from.invariant.3)) _ _ c.low_of.ensures c.low_bits-low.ensures c.if-low_of-low.true, c.loop-from.invariant.2, c.loop-from.invariant.3)

pub loop-from-smaller : goal.loop-from-smaller
loop-from-smaller c = omega arith

pub loop-from-preserved : goal.loop-from-preserved
loop-from-preserved c = (c.loop-from.invariant.0, c.loop-from.invariant.1, ranking.down c.args.image.now.words.now c.args.image.now.parts (record { ok = c.args.image.now.ok; parts = c.args.image.now.right }) c.args.val c.args.end c.requires.1 c.args.first c.requires.0 (c.loop-from.from + (c.loop-from.to - c.loop-from.from) / 2) (omega (arith, c.loop-from.invariant.0)) (omega (arith, c.loop-from-test.true, c.loop-from.invariant.3)) _ _ c.low_of.ensures c.low_bits-low.ensures c.if-low_of-low.false, omega (arith, c.loop-from-test.true, c.loop-from.invariant.3))

pub returns : goal.returns
returns c = omega (arith, c.loop-from-test.false, c.loop-from.invariant.1, c.loop-from.invariant.2)
