-- `elias_fano_from_bits::build::from_ones` meets its contract.
-- Assumes nothing.
use Rattle.elias_fano_from_bits.proofs.Cases as cases
use Rattle.elias_fano_from_bits.proofs.build.from_ones.Goals as goal

pub returns : goal.returns
returns c =
    let h = cases.passed c.args.words.now c.args.len c.args.rank _ _ c.test_ones.ensures _ c.in_ok-j.was in
    let ok = h.sizable.countable in
    cases.ones_written c.args.words.now c.args.len c.args.rank c.args.buffer.now (cases.ones_done c.args.words.now c.args.len c.args.rank _ ok h.room)
    _ c.write.ensures.1 _ c.write.ensures.0
