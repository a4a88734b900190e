-- `elias_fano_queries::rank::walk_back` meets its contract.
-- Assumes nothing.
use mathlib.Core.Path.{sym, ◌∙◌}
use Prim.Native.Nat.{◌+◌, ◌/◌, ◌^◌, ◌<◌}
use native.Mathlib.Nat.{le_refl}
use native.Mathlib.Omega.{arith}
use Rattle.bit_words.proofs.Runs.{bit_at_le}
use Rattle.elias_fano.proofs.Selecting as selecting
use Rattle.elias_fano_queries.proofs.Opened as opened
use Rattle.elias_fano_queries.proofs.Ranking as ranking
use Rattle.elias_fano_queries.proofs.rank.walk_back.Goals as goal

pub overflow_shr-h : goal.overflow_shr-h
overflow_shr-h c = selecting.low_small c.args.image.now.words.now c.args.image.now.ok c.args.image.now.parts c.args.image.now.right

pub low_bits-low-requires : goal.low_bits-low-requires
low_bits-low-requires c = let a = selecting.low_small c.args.image.now.words.now c.args.image.now.ok c.args.image.now.parts c.args.image.now.right in omega arith

pub loop-i-init : goal.loop-i-init
loop-i-init c = (ranking.begins c.args.image.now.words.now c.args.image.now.parts (record { ok = c.args.image.now.ok; parts = c.args.image.now.right }) c.args.val c.args.end c.requires.1, le_refl c.args.end)

-- the place that is looked at is one of the high bits
place : (c : goal.In-loop-i) → c.args.val / 2 ^ c.args.image.now.parts.low_len + c.args.end < c.args.image.now.parts.high_len
place c =
    ranking.place_lt c.args.image.now.words.now c.args.image.now.parts (record { ok = c.args.image.now.ok; parts = c.args.image.now.right }) c.args.val c.args.end c.requires.1 c.requires.0 c.args.end (le_refl c.args.end)

pub overflow_add-h : goal.overflow_add-h
overflow_add-h c =
    let a = place c in
    omega (arith, c.loop-i.invariant.1, opened.high_small c.args.image.now.words.now c.args.image.now.ok c.args.image.now.parts c.args.image.now.right)

pub high_bit-requires : goal.high_bit-requires
high_bit-requires c = let a = place c in (omega (arith, c.loop-i.invariant.1))

pub low_of-requires : goal.low_of-requires
low_of-requires c = (omega (arith, c.loop-i-test.true, c.loop-i.invariant.1, ranking.end_le c.args.image.now.words.now c.args.image.now.parts (record { ok = c.args.image.now.ok; parts = c.args.image.now.right }) c.args.val c.args.end c.requires.1))

pub loop-i-preserved : goal.loop-i-preserved
loop-i-preserved c = (ranking.go_back c.args.image.now.words.now c.args.image.now.parts (record { ok = c.args.image.now.ok; parts = c.args.image.now.right }) c.args.val c.args.end c.requires.1 c.loop-i.i c.loop-i-test.true c.loop-i.invariant.0 c.loop-i.invariant.1 _ _ c.low_of.ensures c.low_bits-low.ensures c.requires.0 (ranking.not_zero _ (bit_at_le _ _) (λ z. c.if-high_bit-eq0.false (c.high_bit.ensures ∙ z))) c.if-low_of-low.false, omega (arith, c.loop-i.invariant.1))

pub returns : goal.returns
returns c = omega (arith, c.loop-i-test.false, c.loop-i.invariant.0)

pub returns-then-high_bit-eq0 : goal.returns-then-high_bit-eq0
returns-then-high_bit-eq0 c =
    let e = ranking.stop_zero c.args.image.now.words.now c.args.image.now.parts (record { ok = c.args.image.now.ok; parts = c.args.image.now.right }) c.args.val c.args.end c.requires.1 c.loop-i.i c.loop-i-test.true c.loop-i.invariant.0 c.loop-i.invariant.1 (sym c.high_bit.ensures ∙ c.if-high_bit-eq0.true) in
    omega (arith, e, c.loop-i-test.true)

pub returns-then-low_of-low : goal.returns-then-low_of-low
returns-then-low_of-low c =
    let e = ranking.stop_low c.args.image.now.words.now c.args.image.now.parts (record { ok = c.args.image.now.ok; parts = c.args.image.now.right }) c.args.val c.args.end c.requires.1 c.loop-i.i c.loop-i-test.true c.loop-i.invariant.0 c.loop-i.invariant.1 _ _ c.low_of.ensures c.low_bits-low.ensures c.if-low_of-low.true in
    omega (arith, e, c.loop-i-test.true)
