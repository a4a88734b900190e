-- `elias_fano_from_bits::build::measured_len` meets its contract.
-- Assumes nothing.
use Rattle.elias_fano_from_bits.proofs.Filing as filing
use Rattle.elias_fano_from_bits.proofs.build.measured_len.Goals as goal

pub overflow_of-ones-requires : goal.overflow_of-ones-requires
overflow_of-ones-requires c =
    let a = c.args in
    (c.requires.countable, filing.low_is a.words.now a.len a.n a.s c.requires, filing.ones_are a.words.now a.len a.n a.s c.requires)

pub image_len-requires : goal.image_len-requires
image_len-requires c = let a = c.args in filing.len_ready a.words.now a.len a.n a.s c.requires a.rank _ _ c.overflow_of-ones.ensures c.zeros_overflow-zeros.ensures

pub returns : goal.returns
returns c = let a = c.args in filing.measured_is a.words.now a.len a.n a.s c.requires a.rank _ _ c.overflow_of-ones.ensures c.zeros_overflow-zeros.ensures _ c.image_len.ensures
