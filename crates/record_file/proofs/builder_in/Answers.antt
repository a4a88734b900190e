-- `record_file::builder_in` meets its contract. Assumes nothing.
use Rattle.record_file.specs.Stored.{builder_of}
use Rattle.std.proofs.Common.{refl}
use Rattle.record_file.proofs.builder_in.Goals as goal

pub returns : goal.returns
unfolding builder_of
returns c = refl
