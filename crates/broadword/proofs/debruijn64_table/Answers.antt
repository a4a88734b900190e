-- `broadword::debruijn64_table` meets its contract: the table is that of the rule. Assumes nothing.
use Rattle.broadword.proofs.PlaceTable.{entries, ruled}
use Rattle.broadword.proofs.debruijn64_table.Goals as goal

pub returns : goal.returns
unfolding entries
returns c = ruled
