-- `darray::inner::matches` meets its contract: the invariant says that the words of the blocks before j are those of the index.
-- Assumes nothing.
use Rattle.darray.proofs.Comparing.{BlocksCompared}
use Rattle.darray.proofs.inner.matches.Given as goal

abbrev pub invariant-loop-j : goal.invariant-loop-j
invariant-loop-j l = BlocksCompared l.over_one l.words l.len l.s l.index l.p.positions l.at l.over l.j
