-- `winters::compare_accepted` meets its contract. Assumes nothing.
use Rattle.elias_fano.specs.Accept.{times}
use Rattle.winters.proofs.Writing as writing
use Rattle.winters.proofs.compare_accepted.Goals as goal

pub returns-then-out-count : goal.returns-then-out-count
returns-then-out-count c = writing.answer_short (times c.args.image.now.words.now) c.args.seconds.now c.args.out.now _ c.saturating_sub-count.ensures c.if-out-count.true

pub returns : goal.returns
returns c =
    writing.answer_is (times c.args.image.now.words.now) c.args.seconds.now c.args.out.now _ c.saturating_sub-count.ensures c.if-out-count.false _ c.compare_all.ensures
