-- `record_file::sums::sum_from` meets its contract. The invariant: the words that are left give the rest of the sum. Assumes nothing.
use Rattle.record_file.specs.Sum.{sum_from}
use Rattle.std.proofs.Common.{◌≡◌, drop}
use Rattle.record_file.proofs.sums.sum_from.Given as goal

abbrev pub invariant-loop-w : goal.invariant-loop-w
invariant-loop-w l = sum_from l.c l.words ≡ sum_from l.d (drop l.w-index l.words)
