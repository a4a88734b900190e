-- `prefix_summed_elias_fano::build::sum_of` meets its contract: the invariant says that `sum` is that of the items before i.
-- Assumes nothing.
use mathlib.Core.Path.{◌≡◌}
use Prim.Native.Nat.{◌-◌, ◌^◌, ◌≤◌}
use lib.ListN.{length, take}
use Rattle.prefix_summed_elias_fano.specs.Sums.{sum as sum_of}
use Rattle.prefix_summed_elias_fano.proofs.build.sum_of.Given as goal

abbrev pub invariant-loop-i : goal.invariant-loop-i
invariant-loop-i l = (l.i ≤ length l.items) × (l.sum ≡ sum_of (take l.i l.items)) × (l.sum ≤ 2 ^ 64 - 2)
