-- `elias_fano_from_bits::build::test_ones` meets its contract.
-- Assumes nothing.
use native.Mathlib.Omega.{arith}
use Rattle.elias_fano_from_bits.proofs.Cases as cases
use Rattle.elias_fano_from_bits.proofs.build.test_ones.Goals as goal

pub returns-then-n-gt-MAX_VALS : goal.returns-then-n-gt-MAX_VALS
returns-then-n-gt-MAX_VALS c = cases.ones_2 c.args.words.now c.args.len c.args.rank c.args.room (omega (arith, c.requires.number, c.if-n-gt-MAX_VALS.true))
