-- `elias_fano::image::read_header` meets its contract.
-- Assumes nothing.
use borrow.Author.Tests.{not-true, not-false}
use Rattle.elias_fano.proofs.Heading as heading
use Rattle.elias_fano.proofs.image.read_header.Goals as goal

pub returns-then-not-in_limits : goal.returns-then-not-in_limits
returns-then-not-in_limits c = λ a. c.in_limits.ensures.no (not-true _ c.if-not-in_limits.true-raw) (heading.limits_of _ a)

pub parts_in-p-requires : goal.parts_in-p-requires
parts_in-p-requires c = c.in_limits.ensures.yes (not-false _ c.if-not-in_limits.false-raw)

pub is_complete-requires : goal.is_complete-requires
is_complete-requires c = (c.in_limits.ensures.yes (not-false _ c.if-not-in_limits.false-raw), c.parts_in-p.ensures)

pub returns-then-not-is_complete : goal.returns-then-not-is_complete
returns-then-not-is_complete c = λ a. c.is_complete.ensures.no (not-true _ c.if-not-is_complete.true-raw) (heading.complete_of _ a)

pub returns : goal.returns
returns c = (c.parts_in-p.ensures, heading.heads _ (c.in_limits.ensures.yes (not-false _ c.if-not-in_limits.false-raw)) (c.is_complete.ensures.yes (not-false _ c.if-not-is_complete.false-raw)))
