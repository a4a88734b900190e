-- `elias_fano_words::check::low_at` meets its contract.
-- Assumes nothing.
use native.Mathlib.Omega.{arith}
use Rattle.elias_fano_words.proofs.check.low_at.Goals as goal

pub low_from-requires : goal.low_from-requires
low_from-requires c = (c.requires.0, omega (arith, c.requires.1.room))

pub returns : goal.returns
returns c = c.low_from.ensures
