-- `elias_fano_from_bits::build::has_room` meets its contract.
-- Assumes nothing.
use Rattle.elias_fano_from_bits.proofs.Filing as filing
use Rattle.elias_fano_from_bits.proofs.build.has_room.Goals as goal

pub limit_of-requires : goal.limit_of-requires
limit_of-requires c = let a = c.args in filing.limit_ready a.words.now a.len a.n a.s c.requires a.rank

pub returns-then-limit_of-room : goal.returns-then-limit_of-room
returns-then-limit_of-room c = let a = c.args in filing.limit_room a.words.now a.len a.n a.s c.requires a.rank _ _ c.limit_of.ensures c.if-limit_of-room.true
