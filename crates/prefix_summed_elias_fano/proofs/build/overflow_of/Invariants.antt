-- `prefix_summed_elias_fano::build::overflow_of` meets its contract: the invariant says that `overflow` counts what the blocks before j spill.
-- Assumes nothing.
use mathlib.Core.Path.{◌≡◌}
use mathlib.Core.Bool.{true}
use Prim.Native.Nat.{suc, ◌*◌, ◌≤◌}
use lib.ListN.{length, take}
use Rattle.darray_positions.specs.Index.{before}
use Rattle.elias_fano_words.specs.Image.{high_positions}
use Rattle.prefix_summed_elias_fano.specs.Sums.{sum as sum_of, sums}
use Rattle.prefix_summed_elias_fano.proofs.build.overflow_of.Given as goal

abbrev pub invariant-loop-j : goal.invariant-loop-j
invariant-loop-j l =
    (l.j ≤ l.blocks) × (l.overflow ≡ before (high_positions (suc (sum_of l.items)) (length l.items) true (sums l.items)) l.j) × (l.sum ≡ sum_of (take (1024 * l.j) l.items))
