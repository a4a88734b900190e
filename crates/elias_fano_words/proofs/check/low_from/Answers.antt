-- `elias_fano_words::check::low_from` meets its contract.
-- Assumes nothing.
use mathlib.Core.Path.{sym}
use Rattle.elias_fano_words.proofs.Reading as reading
use Rattle.elias_fano_words.proofs.check.low_from.Goals as goal

pub returns-then-l-eq0 : goal.returns-then-l-eq0
returns-then-l-eq0 c =
    sym (reading.low_none c.args.low.now c.args.l c.args.pos c.if-l-eq0.true)

pub overflow_sub-result : goal.overflow_sub-result
overflow_sub-result c = reading.mask_fits c.args.l c.requires.0

pub returns : goal.returns
returns c =
    reading.low_masked c.args.low.now c.args.l c.args.pos c.bits_at.result c.requires.0 c.requires.1 c.bits_at.ensures
