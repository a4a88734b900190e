-- `elias_fano::finish::overflow_over` meets its contract.
-- Assumes nothing.
use Rattle.elias_fano.proofs.Measuring as measuring
use Rattle.elias_fano.proofs.finish.overflow_over.Goals as goal

pub unwrap-requires : goal.unwrap-requires
unwrap-requires c = measuring.measured c.args.over_one c.args.words.now c.args.len _ c.measure.ensures c.requires

pub returns : goal.returns
returns c = measuring.overflow_is c.args.over_one c.args.words.now c.args.len _ c.measure.ensures c.unwrap.result c.unwrap.ensures
