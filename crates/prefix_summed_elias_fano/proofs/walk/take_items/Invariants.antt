-- `prefix_summed_elias_fano::walk::take_items` meets its contract. The invariant: `i` items are written. The measure: how many are left. Assumes nothing.
use Rattle.prefix_summed_elias_fano.proofs.Taking as taking
use Rattle.prefix_summed_elias_fano.proofs.walk.take_items.Given as goal

abbrev pub invariant-loop-i : goal.invariant-loop-i
invariant-loop-i l = taking.ItemsWritten l.image l.p l.initial.w.values.number l.count l.initial.out l.out l.w l.i
