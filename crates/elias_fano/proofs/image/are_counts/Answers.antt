-- `elias_fano::image::are_counts` meets its contract.
-- Assumes nothing.
use Rattle.elias_fano.proofs.Heading as heading
use Rattle.elias_fano.proofs.image.are_counts.Goals as goal

pub returns-then-num_vals-eq0 : goal.returns-then-num_vals-eq0
returns-then-num_vals-eq0 c = heading.no_count _ _ _ c.if-num_vals-eq0.true

pub returns-then-num_vals-gt-MAX_VALS : goal.returns-then-num_vals-gt-MAX_VALS
returns-then-num_vals-gt-MAX_VALS c = heading.large_count _ _ _ c.if-num_vals-gt-MAX_VALS.true

pub returns-then-num_pushed-num_vals : goal.returns-then-num_pushed-num_vals
returns-then-num_pushed-num_vals c = heading.pushed-past _ _ _ c.if-num_pushed-num_vals.true

pub returns : goal.returns
returns c = heading.choice _ _ _ c.if-num_vals-eq0.false c.if-num_vals-gt-MAX_VALS.false c.if-num_pushed-num_vals.false
