-- `record_file::sums::sum_from` meets its contract. Assumes nothing.
use Rattle.record_file.proofs.Summing.{sum_more, sum_done}
use Rattle.std.proofs.Common.{sym, ◌∙◌}
use Rattle.record_file.proofs.sums.sum_from.Goals as goal

pub loop-w-preserved : goal.loop-w-preserved
loop-w-preserved c =
    let l = c.loop-w in
    l.invariant ∙ sum_more l.d c.args.words.now l.w-index c.sum_with-d.result c.loop-w-test.true c.sum_with-d.ensures

pub returns : goal.returns
returns c = let l = c.loop-w in sym (l.invariant ∙ sum_done l.d c.args.words.now l.w-index c.loop-w-test.false)
