-- `prefix_summed_elias_fano::build::file_all` meets its contract: the invariant says that the sums before i are filed.
-- Assumes nothing.
use mathlib.Core.Path.{◌≡◌}
use Prim.Native.Nat.{◌≤◌}
use lib.ListN.{length, take}
use Rattle.prefix_summed_elias_fano.specs.Sums.{sum as sum_of}
use Rattle.prefix_summed_elias_fano.proofs.Filing.{filed_first}
use Rattle.prefix_summed_elias_fano.proofs.build.file_all.Given as goal

abbrev pub invariant-loop-i : goal.invariant-loop-i
invariant-loop-i l =
    (l.i ≤ length l.items) × (l.sum ≡ sum_of (take l.i l.items)) × (length l.buffer ≡ length l.initial.buffer) × (l.buffer ≡ filed_first l.items l.initial.buffer l.i)
