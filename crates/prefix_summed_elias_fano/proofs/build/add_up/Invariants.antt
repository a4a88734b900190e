-- `prefix_summed_elias_fano::build::add_up` meets its contract: the invariant says that `sum` is that of the items before i.
-- Assumes nothing.
use mathlib.Core.Path.{◌≡◌}
use Prim.Native.Nat.{◌≤◌}
use lib.ListN.{take}
use Rattle.prefix_summed_elias_fano.specs.Sums.{sum as sum_of}
use Rattle.prefix_summed_elias_fano.proofs.build.add_up.Given as goal

abbrev pub invariant-loop-i : goal.invariant-loop-i
invariant-loop-i l = (l.from ≤ l.i) × (l.i ≤ l.to) × (l.sum ≡ sum_of (take l.i l.items))
