-- `bit_words::low_mask` meets its contract.
-- Assumes nothing.
use Rattle.bit_words.proofs.Stores.{mask_is}
use Rattle.bit_words.proofs.low_mask.Goals as goal

pub returns : goal.returns
returns c = mask_is c.args.width c.requires.1
