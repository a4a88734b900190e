-- `winters::nothing` meets its contract. Assumes nothing.
use Rattle.winters.proofs.Summing as summing
use Rattle.winters.proofs.nothing.Goals as goal

pub returns : goal.returns
returns c = summing.nothing_told
