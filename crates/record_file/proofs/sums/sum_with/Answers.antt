-- `record_file::sums::sum_with` meets its contract. Assumes nothing.
use Rattle.record_file.proofs.Summing.{sum_with_is}
use Rattle.std.proofs.Common.{refl}
use Rattle.record_file.proofs.sums.sum_with.Goals as goal

pub returns : goal.returns
returns c = sum_with_is c.args.c c.args.w c.wrapping_mul.result _ c.wrapping_mul.ensures refl
