-- `elias_fano_walk::search::scan_range` meets its contract. The invariant: to go on from `i` gives what going on from the start gives. The measure:
-- what is left of the range. Assumes nothing.
use Rattle.elias_fano_walk.proofs.Searched as searched
use Rattle.elias_fano_walk.proofs.search.scan_range.Given as goal

abbrev pub invariant-loop-i : goal.invariant-loop-i
invariant-loop-i l = searched.Scanning l.image.words.now l.image.parts l.val l.fn.section.number l.fn.section.end l.w l.i
