-- `elias_fano_from_bits::build::zeros_overflow` meets its contract.
-- Assumes nothing.
use Rattle.elias_fano_from_bits.proofs.Filing as filing
use Rattle.elias_fano_from_bits.proofs.build.zeros_overflow.Goals as goal

pub overflow_sub-s : goal.overflow_sub-s
overflow_sub-s c = let a = c.args in filing.high_enough a.words.now a.len a.n a.s c.requires

pub overflow_of-requires : goal.overflow_of-requires
overflow_of-requires c =
    let a = c.args in
    let q = c.requires in
    (q.countable, filing.low_is a.words.now a.len a.n a.s q, filing.zeros_are a.words.now a.len a.n a.s q)
