-- `record_file::restore` meets its contract. Assumes nothing.
use Rattle.std.proofs.Common.{arith}
use Rattle.std.proofs.lemmas.List.{length-take}
use Rattle.record_file.proofs.Restoring.{restored}
use Rattle.record_file.proofs.restore.Goals as goal

pub returns : goal.returns
returns c = restored _ _ c.taken.result (omega (arith, c.taken.auto.words, c.load.auto.words, c.in_ok-n.ensures, length-take c.in_ok-n.n c.load.new.words)) c.taken.ensures
