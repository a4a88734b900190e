-- `elias_fano_walk::walk::ahead_of` meets its contract.
-- Assumes nothing.
use native.Mathlib.Omega.{arith}
use Rattle.elias_fano.proofs.Accepting.{found}
use Rattle.elias_fano.proofs.Standing as standing
use Rattle.elias_fano_walk.proofs.Walked as walked
use Rattle.elias_fano_walk.proofs.walk.ahead_of.Goals as goal

pub returns-then-rest-ne0 : goal.returns-then-rest-ne0
returns-then-rest-ne0 c = ((c.requires.0 c.requires.1).ones, c.if-rest-ne0.true)

pub slice_bounds-high-count : goal.slice_bounds-high-count
slice_bounds-high-count c = standing.six_low c.args.image.now.words.now c.args.image.now.parts c.args.image.now.right (found c.args.image.now.words.now c.args.image.now.ok).head

pub slice_bounds-high-start : goal.slice_bounds-high-start
slice_bounds-high-start c = standing.six_low c.args.image.now.words.now c.args.image.now.parts c.args.image.now.right (found c.args.image.now.words.now c.args.image.now.ok).head

pub slice_bounds-high-end : goal.slice_bounds-high-end
slice_bounds-high-end c = standing.low_end c.args.image.now.words.now c.args.image.now.parts c.args.image.now.right (found c.args.image.now.words.now c.args.image.now.ok).head

pub skip_zeros-at-requires : goal.skip_zeros-at-requires
skip_zeros-at-requires c =
    let e = c.words_for.ensures in
    let m = walked.more_words c.args.image.now.words.now c.args.image.now.ok c.args.image.now.parts c.args.image.now.right c.args.w.number c.requires.1 c.args.w.base c.args.w.rest (c.requires.0 c.requires.1).ones c.if-rest-ne0.false in
    let r = walked.high_room c.args.image.now.words.now c.args.image.now.ok c.args.image.now.parts c.args.image.now.right in
    omega arith

pub overflow_mul-result : goal.overflow_mul-result
overflow_mul-result c =
    record { fits = walked.word_fits c.args.image.now.words.now c.args.image.now.ok c.args.image.now.parts c.args.image.now.right c.args.w.number c.requires.1 c.args.w.base c.args.w.rest (c.requires.0 c.requires.1).ones c.if-rest-ne0.false _ _ c.words_for.ensures c.skip_zeros-at.ensures }

pub bounds-high-at : goal.bounds-high-at
bounds-high-at c =
    walked.in_high c.args.image.now.words.now c.args.image.now.ok c.args.image.now.parts c.args.image.now.right c.args.w.number c.requires.1 c.args.w.base c.args.w.rest (c.requires.0 c.requires.1).ones c.if-rest-ne0.false _ _ c.words_for.ensures c.skip_zeros-at.ensures

pub returns : goal.returns
returns c =
    walked.next_word c.args.image.now.words.now c.args.image.now.ok c.args.image.now.parts c.args.image.now.right c.args.w.number c.requires.1 c.args.w.base c.args.w.rest (c.requires.0 c.requires.1).ones c.if-rest-ne0.false _ _ c.words_for.ensures c.skip_zeros-at.ensures
