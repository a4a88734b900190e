-- `elias_fano_walk::walk::lows_of` meets its contract.
-- Assumes nothing.
use Prim.Native.Nat.{◌*◌, ◌^◌, ◌<◌}
use native.Mathlib.Omega.{arith}
use Rattle.elias_fano.proofs.Accepting.{found}
use Rattle.elias_fano.proofs.Selecting as selecting
use Rattle.elias_fano.proofs.Standing as standing
use Rattle.elias_fano_walk.specs.Walking.{low_part}
use Rattle.elias_fano_walk.proofs.Lows as lows
use Rattle.elias_fano_walk.proofs.Walked as walked
use Rattle.elias_fano_walk.proofs.walk.lows_of.Goals as goal

pub overflow_shr-w : goal.overflow_shr-w
overflow_shr-w c = selecting.low_small c.args.image.now.words.now c.args.image.now.ok c.args.image.now.parts c.args.image.now.right

pub returns-then-w-image-ne0 : goal.returns-then-w-image-ne0
returns-then-w-image-ne0 c = ((c.requires.0 c.requires.1).lows, c.if-w-image-ne0.true)

pub offset_bounds-image-start : goal.offset_bounds-image-start
offset_bounds-image-start c = let e = standing.low_end c.args.image.now.words.now c.args.image.now.parts c.args.image.now.right (found c.args.image.now.words.now c.args.image.now.ok).head in record { fits = omega (arith, c.well_formed) }

pub slice_bounds-bits_at-count : goal.slice_bounds-bits_at-count
slice_bounds-bits_at-count c = standing.low_ones c.args.image.now.words.now c.args.image.now.parts c.args.image.now.right (found c.args.image.now.words.now c.args.image.now.ok).head

pub slice_bounds-bits_at-start : goal.slice_bounds-bits_at-start
slice_bounds-bits_at-start c = standing.low_ones c.args.image.now.words.now c.args.image.now.parts c.args.image.now.right (found c.args.image.now.words.now c.args.image.now.ok).head

pub slice_bounds-bits_at-end : goal.slice_bounds-bits_at-end
slice_bounds-bits_at-end c = standing.ones_end c.args.image.now.words.now c.args.image.now.parts c.args.image.now.right (found c.args.image.now.words.now c.args.image.now.ok).head

pub overflow_mul-w : goal.overflow_mul-w
overflow_mul-w c = record { fits = walked.low_fits c.args.image.now.words.now c.args.image.now.ok c.args.image.now.parts c.args.image.now.right c.args.w.number c.requires.1 }

pub bits_at-requires : goal.bits_at-requires
bits_at-requires c =
    walked.low_below c.args.image.now.words.now c.args.image.now.ok c.args.image.now.parts c.args.image.now.right c.args.w.number c.requires.1 c.args.w.lows (c.requires.0 c.requires.1).lows c.if-w-image-ne0.false

pub returns : goal.returns
returns c =
    let f : c.bits_at.result < 2 ^ 64 = omega arith in
    lows.many_read (low_part c.args.image.now.words.now c.args.image.now.parts) (c.args.w.number * c.args.image.now.parts.low_len) c.bits_at.result f c.bits_at.ensures c.args.image.now.parts.low_len (selecting.low_small c.args.image.now.words.now c.args.image.now.ok c.args.image.now.parts c.args.image.now.right)
