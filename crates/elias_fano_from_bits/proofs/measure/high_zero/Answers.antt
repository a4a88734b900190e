-- `elias_fano_from_bits::measure::high_zero` meets its contract.
-- Assumes nothing.
use native.Mathlib.Omega.{arith}
use Rattle.bit_words.proofs.Valid.{valid}
use Rattle.elias_fano_from_bits.proofs.Highs as highs
use Rattle.elias_fano_from_bits.proofs.Marks as marks
use Rattle.elias_fano_from_bits.proofs.measure.high_zero.Goals as goal

pub bucket_end-requires : goal.bucket_end-requires
bucket_end-requires c = let q = highs.low_small c.args.words.now c.args.len c.requires.countable in omega (arith, c.requires.low)

pub mark_at-mark-requires : goal.mark_at-mark-requires
mark_at-mark-requires c = (
  c.requires.marked,
  (valid c.args.words.now c.args.len c.requires.countable.valid).room,
  marks.zero_after c.args.words.now c.args.len c.args.l c.args.k c.args.from c.requires _ c.bucket_end.ensures,
  marks.zero_upto c.args.words.now c.args.len c.args.l c.args.k c.args.from c.requires _ c.bucket_end.ensures,
)

pub overflow_add-result : goal.overflow_add-result
overflow_add-result c =
    record { fits = marks.zero_fits c.args.words.now c.args.len c.args.l c.args.k c.args.from c.requires _ c.bucket_end.ensures _ c.mark_at-mark.ensures.0 c.mark_at-mark.ensures.1 }

pub returns : goal.returns
returns c =
    marks.seen_zero c.args.words.now c.args.len c.args.l c.args.k c.args.from c.requires _ c.bucket_end.ensures _ c.mark_at-mark.ensures.0 c.mark_at-mark.ensures.1
