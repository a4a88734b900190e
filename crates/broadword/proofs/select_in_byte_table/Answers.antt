-- `broadword::select_in_byte_table` meets its contract: the table is that of the rule. Assumes nothing.
use Rattle.broadword.proofs.ByteTable.{entries, ruled}
use Rattle.broadword.proofs.select_in_byte_table.Goals as goal

pub returns : goal.returns
unfolding entries
returns c = ruled
