-- `elias_fano_from_bits::measure::high_one` meets its contract.
-- Assumes nothing.
use native.Mathlib.Omega.{arith}
use Rattle.elias_fano_from_bits.proofs.Highs as highs
use Rattle.elias_fano_from_bits.proofs.Marks as marks
use Rattle.elias_fano_from_bits.proofs.measure.high_one.Goals as goal

pub find_within-place-requires : goal.find_within-place-requires
find_within-place-requires c = (
  marks.findable c.args.words.now c.args.len c.args.l c.args.k c.args.from c.requires _ c.words_for-used.ensures,
  marks.ahead c.args.words.now c.args.len c.args.l c.args.k c.args.from c.requires _ c.words_for-used.ensures,
)

pub overflow_shr-result : goal.overflow_shr-result
overflow_shr-result c = let q = highs.low_small c.args.words.now c.args.len c.requires.countable in omega (arith, c.requires.low)

pub overflow_add-result : goal.overflow_add-result
overflow_add-result c = record { fits = marks.high_fits c.args.words.now c.args.len c.args.l c.args.k c.args.from c.requires _ c.words_for-used.ensures _ c.find_within-place.ensures }

pub returns : goal.returns
returns c = marks.seen_one c.args.words.now c.args.len c.args.l c.args.k c.args.from c.requires _ c.words_for-used.ensures _ c.find_within-place.ensures
