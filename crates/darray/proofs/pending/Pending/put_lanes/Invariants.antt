-- `darray::pending::Pending::put_lanes` meets its contract: the invariant says that the first t words of distances are written.
-- Assumes nothing.
use Rattle.std.proofs.Common.{◌≡◌}
use Rattle.darray.specs.Pending.{block_lane_word, put}
use Rattle.darray.proofs.pending.Pending.put_lanes.Given as goal

abbrev pub invariant-loop-t : goal.invariant-loop-t
invariant-loop-t l = l.out ≡ put l.fn.out l.at (block_lane_word l.self.positions l.self.count) l.t
