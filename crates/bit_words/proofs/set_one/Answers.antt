-- `bit_words::set_one` meets its contract.
-- Assumes nothing.
use Rattle.bit_words.proofs.Stores.{put_one}
use Rattle.bit_words.proofs.set_one.Goals as goal

pub returns : goal.returns
returns c = put_one c.args.words.now c.args.pos (λ i. (c.slice_known-1.given i).fits) c.requires
