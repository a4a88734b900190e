-- `darray::inner::write_within` meets its contract.
-- Assumes nothing.
use Rattle.std.proofs.Common.{arith, take, drop}
use Rattle.bit_words.specs.Vector.{words_for}
use Rattle.darray.proofs.Building.{positions_lt}
use Rattle.darray.proofs.inner.write_within.Goals as goal

pub sizes_by-requires : goal.sizes_by-requires
sizes_by-requires c =
    let a = c.args in
    omega (arith, c.requires.2.positions, positions_lt a.over_one (take (words_for a.len) (drop a.first a.buf.now)) a.len c.requires.2.few)
