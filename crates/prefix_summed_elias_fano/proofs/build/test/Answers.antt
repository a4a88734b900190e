-- `prefix_summed_elias_fano::build::test` meets its contract.
-- Assumes nothing.
use native.Mathlib.Omega.{arith}
use Rattle.prefix_summed_elias_fano.proofs.Cases as cases
use Rattle.prefix_summed_elias_fano.proofs.build.test.Goals as goal

pub returns-then-items-gt-MAX_VALS : goal.returns-then-items-gt-MAX_VALS
returns-then-items-gt-MAX_VALS c = cases.slice_2 c.args.items.now c.args.len c.if-items-gt-MAX_VALS.true

pub test_room-requires : goal.test_room-requires
test_room-requires c = let h = cases.sum_is c.args.items.now _ c.sum_of.ensures _ c.in-Some.is in (record { some = c.requires; most = c.if-items-gt-MAX_VALS.false; small = omega (arith, h.0, h.1) }, h.0)

pub returns-in_default : goal.returns-in_default
returns-in_default c = cases.slice_12 c.args.items.now c.args.len c.if-items-gt-MAX_VALS.false (cases.too_large c.args.items.now _ c.sum_of.ensures c.in_default.is)
