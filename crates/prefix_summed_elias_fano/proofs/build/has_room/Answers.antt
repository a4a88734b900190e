-- `prefix_summed_elias_fano::build::has_room` meets its contract.
-- Assumes nothing.
use mathlib.Core.Path.{ap}
use Prim.Native.Nat.{ℕ}
use lib.Dec.{leb}
use Rattle.prefix_summed_elias_fano.proofs.Filing as filing
use Rattle.prefix_summed_elias_fano.proofs.build.has_room.Goals as goal

pub limit_of-requires : goal.limit_of-requires
limit_of-requires c = filing.limit_ready c.args.items.now c.requires.0 c.args.s c.requires.1

pub returns-then-limit_of-room : goal.returns-then-limit_of-room
returns-then-limit_of-room c = filing.limit_room c.args.items.now c.requires.0 c.args.s c.requires.1 _ _ c.limit_of.ensures c.if-limit_of-room.true

pub returns : goal.returns
returns c = ap (λ (k : ℕ). leb k c.args.room) c.measured_len.ensures
