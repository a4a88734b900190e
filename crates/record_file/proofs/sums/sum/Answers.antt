-- `record_file::sums::sum` meets its contract. Assumes nothing.
use Rattle.record_file.proofs.Summing.{sum_is}
use Rattle.record_file.proofs.sums.sum.Goals as goal

pub returns : goal.returns
returns c = sum_is c.args.b c.args.words.now _ _ _ c.numbers.ensures c.sum_from.ensures c.sum_from-2.ensures
