-- `darray::inner::write` meets its contract: the invariant says that the words of the blocks before j are those of the index, and that the words
-- past it are as they were.
-- Assumes nothing.
use Rattle.darray.proofs.Writing.{Writing}
use Rattle.darray.proofs.inner.write.Given as goal

abbrev pub invariant-loop-j : goal.invariant-loop-j
invariant-loop-j l = Writing l.over_one l.words l.len l.fn.out l.out l.p.positions l.from l.over l.j
