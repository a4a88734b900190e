-- `winters::compare_all` meets its contract. The invariant: the words of `i` spans are written.
-- Assumes nothing.
use Rattle.elias_fano.specs.Accept.{times}
use Rattle.winters.proofs.Writing as writing
use Rattle.winters.proofs.compare_all.Given as goal

abbrev pub invariant-loop-i : goal.invariant-loop-i
invariant-loop-i l = writing.Compared (times l.image.words.now) l.seconds l.initial.out l.out l.i
