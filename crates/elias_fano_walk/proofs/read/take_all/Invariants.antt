-- `elias_fano_walk::read::take_all` meets its contract. The invariant: `i` values are written. The measure: how many are left.
-- Assumes nothing.
use Rattle.elias_fano_walk.proofs.Reading as reading
use Rattle.elias_fano_walk.proofs.read.take_all.Given as goal

abbrev pub invariant-loop-i : goal.invariant-loop-i
invariant-loop-i l = reading.Written l.image.words.now l.image.parts l.initial.w.number l.count l.initial.out l.out l.w l.i
