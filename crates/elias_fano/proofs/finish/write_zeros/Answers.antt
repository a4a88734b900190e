-- `elias_fano::finish::write_zeros` meets its contract.
-- Assumes nothing.
use mathlib.Core.Path.{◌∙◌}
use borrow.Author.Tests.{not-true, not-false}
use Rattle.elias_fano.proofs.Measuring as measuring
use Rattle.elias_fano.proofs.finish.write_zeros.Goals as goal

pub returns-then-not-rank : goal.returns-then-not-rank
returns-then-not-rank c =
    let a = c.args in
    (measuring.zeros_none a.rank _ a.len a.at a.buffer.now (not-true _ c.if-not-rank.true-raw), measuring.not_chosen a.rank _ (not-true _ c.if-not-rank.true-raw))

pub write_within-requires : goal.write_within-requires
write_within-requires c = (c.requires.0, c.requires.1, c.requires.2 (not-false _ c.if-not-rank.false-raw))

pub returns : goal.returns
returns c =
    let a = c.args in
    let e = c.write_within.ensures in
    let d = not-false _ c.if-not-rank.false-raw in
    (e.0 ∙ measuring.zeros_some a.rank _ a.len a.at a.buffer.now d, measuring.chosen a.rank _ _ d e.1)
