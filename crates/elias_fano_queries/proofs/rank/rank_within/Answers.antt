-- `elias_fano_queries::rank::rank_within` meets its contract.
-- Assumes nothing.
use Prim.Native.Nat.{◌+◌, ◌-◌, ◌/◌, ◌^◌}
use native.Mathlib.Nat.{le_of_lt}
use native.Mathlib.Omega.{arith}
use lib.Bits.{and_le_l}
use lib.Pow.{shr_mono}
use Rattle.bit_words.proofs.Runs.{bit_at_le}
use Rattle.elias_fano.proofs.Selecting as selecting
use Rattle.elias_fano.specs.Opening.{high_part}
use Rattle.elias_fano_queries.proofs.Opened as opened
use Rattle.elias_fano_queries.proofs.Ranking as ranking
use Rattle.elias_fano_queries.proofs.rank.rank_within.Goals as goal

pub overflow_shr-h : goal.overflow_shr-h
overflow_shr-h c = selecting.low_small c.args.image.now.words.now c.args.image.now.ok c.args.image.now.parts c.args.image.now.right

pub count_upto-end-requires : goal.count_upto-end-requires
count_upto-end-requires c = (c.requires.0, shr_mono c.args.image.now.parts.low_len (le_of_lt c.requires.1))

pub overflow_sub-end : goal.overflow_sub-end
overflow_sub-end c = omega (arith, c.if-end-ge2.true)

pub overflow_add-h : goal.overflow_add-h
overflow_add-h c = omega (arith, ranking.place_lt c.args.image.now.words.now c.args.image.now.parts (record { ok = c.args.image.now.ok; parts = c.args.image.now.right }) c.args.val _ c.count_upto-end.ensures c.requires.1 (c.count_upto-end.result - 1) (omega arith), opened.high_small c.args.image.now.words.now c.args.image.now.ok c.args.image.now.parts c.args.image.now.right)

pub high_bit-last-requires : goal.high_bit-last-requires
high_bit-last-requires c = (ranking.place_lt c.args.image.now.words.now c.args.image.now.parts (record { ok = c.args.image.now.ok; parts = c.args.image.now.right }) c.args.val _ c.count_upto-end.ensures c.requires.1 (c.count_upto-end.result - 1) (omega arith))

pub overflow_add-h-then-end-ge2 : goal.overflow_add-h-then-end-ge2
overflow_add-h-then-end-ge2 c = omega (arith, ranking.place_lt c.args.image.now.words.now c.args.image.now.parts (record { ok = c.args.image.now.ok; parts = c.args.image.now.right }) c.args.val _ c.count_upto-end.ensures c.requires.1 (c.count_upto-end.result - 2) (omega arith), opened.high_small c.args.image.now.words.now c.args.image.now.ok c.args.image.now.parts c.args.image.now.right)

pub high_bit-requires : goal.high_bit-requires
high_bit-requires c = (ranking.place_lt c.args.image.now.words.now c.args.image.now.parts (record { ok = c.args.image.now.ok; parts = c.args.image.now.right }) c.args.val _ c.count_upto-end.ensures c.requires.1 (c.count_upto-end.result - 2) (omega arith))

pub low_bits-low-requires : goal.low_bits-low-requires
low_bits-low-requires c = le_of_lt (selecting.low_small c.args.image.now.words.now c.args.image.now.ok c.args.image.now.parts c.args.image.now.right)

pub overflow_sub-end-then-last-high_bit-eq0 : goal.overflow_sub-end-then-last-high_bit-eq0
overflow_sub-end-then-last-high_bit-eq0 c = omega (arith, c.if-end-ge2.true)

pub from_low-requires : goal.from_low-requires
from_low-requires c = (omega (arith, c.if-end-ge2.true, ranking.end_le c.args.image.now.words.now c.args.image.now.parts (record { ok = c.args.image.now.ok; parts = c.args.image.now.right }) c.args.val _ c.count_upto-end.ensures))

pub overflow_sub-result : goal.overflow_sub-result
overflow_sub-result c = omega (arith, and_le_l c.high_bit-last.result c.from_low.result, c.high_bit-last.ensures, bit_at_le (high_part c.args.image.now.words.now c.args.image.now.parts) (c.args.val / 2 ^ c.args.image.now.parts.low_len + (c.count_upto-end.result - 1)), c.if-end-ge2.true)

pub returns-then-last-high_bit-eq0 : goal.returns-then-last-high_bit-eq0
returns-then-last-high_bit-eq0 c = ranking.at_most_one c.args.image.now.words.now c.args.image.now.parts (record { ok = c.args.image.now.ok; parts = c.args.image.now.right }) c.args.val _ c.count_upto-end.ensures c.requires.1 c.if-end-ge2.true _ _ _ _ c.high_bit-last.ensures c.high_bit.ensures c.if-last-high_bit-eq0.true c.low_bits-low.ensures c.from_low.ensures

pub rank_from-requires : goal.rank_from-requires
rank_from-requires c = (c.requires.0, c.requires.1, c.count_upto-end.ensures)

pub returns : goal.returns
returns c = c.rank_from.ensures
