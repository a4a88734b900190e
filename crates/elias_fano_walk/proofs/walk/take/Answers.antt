-- `elias_fano_walk::walk::take` meets its contract.
-- Assumes nothing.
use native.Mathlib.Numerals.{add-one}
use Rattle.elias_fano.proofs.Selecting as selecting
use Rattle.elias_fano_words.proofs.Reading as reading
use Rattle.elias_fano_walk.proofs.Walked as walked
use Rattle.elias_fano_walk.proofs.walk.take.Goals as goal

pub overflow_shl-low : goal.overflow_shl-low
overflow_shl-low c = selecting.low_small c.args.image.now.words.now c.args.image.now.ok c.args.image.now.parts c.args.image.now.right

pub overflow_sub-low : goal.overflow_sub-low
overflow_sub-low c = reading.mask_fits c.args.image.now.parts.low_len (selecting.low_small c.args.image.now.words.now c.args.image.now.ok c.args.image.now.parts c.args.image.now.right)

pub overflow_sub-result : goal.overflow_sub-result
overflow_sub-result c =
    selecting.at_or_past c.args.image.now.words.now c.args.image.now.ok c.args.image.now.parts c.args.image.now.right c.args.w.number c.requires.1 _ c.take_one-one.ensures.at.place

pub overflow_shl-result : goal.overflow_shl-result
overflow_shl-result c = selecting.low_small c.args.image.now.words.now c.args.image.now.ok c.args.image.now.parts c.args.image.now.right

pub overflow_add-result : goal.overflow_add-result
overflow_add-result c =
    let l = c.lows_of-lows in
    selecting.value_fits c.args.image.now.words.now c.args.image.now.ok c.args.image.now.parts c.args.image.now.right c.args.w.number c.requires.1 _ c.take_one-one.ensures.at.place _
    (walked.low_is c.args.image.now.words.now c.args.image.now.ok c.args.image.now.parts c.args.image.now.right c.args.w.number c.requires.1 l.result l.ensures.0 l.ensures.1)

pub overflow_shr-result : goal.overflow_shr-result
overflow_shr-result c = selecting.low_small c.args.image.now.words.now c.args.image.now.ok c.args.image.now.parts c.args.image.now.right

pub returns : goal.returns
returns c =
    let o = c.take_one-one.ensures in
    let l = c.lows_of-lows in (
      (λ h. walked.goes_on c.args.image.now.words.now c.args.image.now.ok c.args.image.now.parts c.args.image.now.right c.args.w.number _ _ l.result o.after l.ensures.0 l.ensures.1),
      add-one c.args.w.number,
      selecting.value_is c.args.image.now.words.now c.args.image.now.ok c.args.image.now.parts c.args.image.now.right c.args.w.number c.requires.1 _ o.at.place _
          (walked.low_is c.args.image.now.words.now c.args.image.now.ok c.args.image.now.parts c.args.image.now.right c.args.w.number c.requires.1 l.result l.ensures.0 l.ensures.1),
    )
