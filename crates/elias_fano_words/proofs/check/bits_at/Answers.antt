-- `elias_fano_words::check::bits_at` meets its contract.
-- Assumes nothing.
use Rattle.std.proofs.Common.{arith}
use Rattle.elias_fano_words.proofs.Reading as reading
use Rattle.elias_fano_words.proofs.check.bits_at.Goals as goal

pub returns : goal.returns
returns c = reading.bits_from c.args.words.now (λ i. (c.type_inv.words i).fits) c.args.pos c.min-next.result (λ h. omega arith)
