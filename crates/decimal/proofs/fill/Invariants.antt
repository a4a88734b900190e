-- `decimal::fill` meets its contract. The invariant: writing the digits that are left gives what writing all of them gives. Assumes nothing.
use mathlib.Core.Path.{◌≡◌}
use lib.ListN.{length}
use Rattle.decimal.proofs.Writing.{put}
use Rattle.decimal.proofs.fill.Given as goal

abbrev pub invariant-loop-i : goal.invariant-loop-i
invariant-loop-i l = (length l.out ≡ length l.initial.out) × (put l.i l.rest l.out l.at ≡ put l.n l.x l.initial.out l.at)
