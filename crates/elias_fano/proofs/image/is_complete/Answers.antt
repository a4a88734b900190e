-- `elias_fano::image::is_complete` meets its contract.
-- Assumes nothing.
use native.Mathlib.Omega.{arith}
use Rattle.elias_fano.proofs.Heading as heading
use Rattle.elias_fano.proofs.image.is_complete.Goals as goal

pub zeros_len-requires : goal.zeros_len-requires
zeros_len-requires c = let z = c.requires.0.zeros in (heading.parts_high c.args.image.now (c.shared_slice_known-1.given 0).fits c.requires.0 c.args.p c.requires.1, heading.parts_pushed c.args.image.now (c.shared_slice_known-1.given 0).fits c.requires.0 c.args.p c.requires.1, omega (arith, c.well_formed.0))

pub overflow_add-p : goal.overflow_add-p
overflow_add-p c = heading.end_fits c.args.image.now (c.shared_slice_known-1.given 0).fits c.requires.0 c.args.p c.requires.1 _ c.zeros_len.ensures (omega (arith, c.well_formed.0))

pub returns-then-p-zeros_len : goal.returns-then-p-zeros_len
returns-then-p-zeros_len c = heading.other_length c.args.image.now c.args.p _ c.requires.1 c.zeros_len.ensures c.if-p-zeros_len.true

pub returns-then-p : goal.returns-then-p
returns-then-p c = heading.with_rank c.args.image.now c.args.p _ c.requires.1 c.zeros_len.ensures c.if-p-zeros_len.false c.if-p.true

pub returns : goal.returns
returns c = heading.without_rank c.args.image.now c.args.p _ c.requires.1 c.zeros_len.ensures c.if-p-zeros_len.false c.if-p.false
