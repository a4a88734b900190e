-- `darray::pending::Pending::lanes_match` meets its contract: the invariant says that the words before t are the distances.
-- Assumes nothing.
use Rattle.darray.specs.Pending.{block_lane_word, Reads}
use Rattle.darray.proofs.pending.Pending.lanes_match.Given as goal

abbrev pub invariant-loop-t : goal.invariant-loop-t
invariant-loop-t l = Reads l.index l.at (block_lane_word l.self.positions l.self.count) l.t
