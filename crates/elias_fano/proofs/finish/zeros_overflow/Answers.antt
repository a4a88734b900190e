-- `elias_fano::finish::zeros_overflow` meets its contract.
-- Assumes nothing.
use Rattle.elias_fano.proofs.Measuring as measuring
use Rattle.elias_fano.proofs.finish.zeros_overflow.Goals as goal

pub returns-then-rank : goal.returns-then-rank
returns-then-rank c = measuring.chosen c.args.rank _ _ c.if-rank.true c.overflow_over.ensures

pub returns : goal.returns
returns c = measuring.not_chosen c.args.rank _ c.if-rank.false
