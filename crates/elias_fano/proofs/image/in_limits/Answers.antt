-- `elias_fano::image::in_limits` meets its contract.
-- Assumes nothing.
use borrow.Author.Tests.{not-true, not-false}
use Rattle.elias_fano.proofs.Heading as heading
use Rattle.elias_fano.proofs.image.in_limits.Goals as goal

pub returns-then-len-lt6 : goal.returns-then-len-lt6
returns-then-len-lt6 c = heading.short _ c.if-len-lt6.true

pub returns-then-not-are_counts : goal.returns-then-not-are_counts
returns-then-not-are_counts c = heading.other_counts c.args.image.now (c.are_counts.ensures.no (not-true _ c.if-not-are_counts.true-raw))

pub returns-then-image-len : goal.returns-then-image-len
returns-then-image-len c = heading.long_ones _ c.if-image-len.true

pub returns : goal.returns
returns c = heading.zeros c.args.image.now c.if-len-lt6.false (c.are_counts.ensures.yes (not-false _ c.if-not-are_counts.false-raw)) c.if-image-len.false
