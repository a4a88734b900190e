-- `record_file::head` meets its contract. Assumes nothing.
use Rattle.record_file.specs.Stored.{head_of}
use Rattle.std.proofs.Common.{ap}
use Rattle.record_file.proofs.head.Goals as goal

pub returns : goal.returns
unfolding head_of
returns c = ap (head_of c.args.b) c.sum-check.ensures
