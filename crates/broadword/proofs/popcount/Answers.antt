-- `broadword::popcount` meets its contract: the language's count of ones is that of the places.
-- Assumes nothing.
use native.Mathlib.Nat.{lt_of_le_of_lt}
use native.Mathlib.Omega.{arith}
use lib.Count.{ones-le}
use lib.Dec.{lit<}
use Rattle.broadword.proofs.Count.{count_ones}
use Rattle.broadword.proofs.popcount.Goals as goal

pub overflow_cast-result : goal.overflow_cast-result
overflow_cast-result c = record { fits = lt_of_le_of_lt (ones-le 64 _ (omega (arith, c.ranges.x.fits))) (lit< tt) }

pub returns : goal.returns
returns c = count_ones 64 c.args.x c.ranges.x.fits
