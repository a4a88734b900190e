-- `elias_fano_words::check::rises` meets its contract.
-- Assumes nothing.
use Rattle.broadword.specs.Fields.{flag}
use Rattle.elias_fano_words.proofs.Reading as reading
use Rattle.elias_fano_words.proofs.check.rises.Goals as goal

pub returns-then-l-eq0 : goal.returns-then-l-eq0
returns-then-l-eq0 c = reading.rises_none c.args.low.now c.args.l c.args.k c.requires.0 c.requires.1 c.args.strict c.if-l-eq0.true

pub overflow_sub-mask : goal.overflow_sub-mask
overflow_sub-mask c = reading.mask_fits c.args.l c.requires.0

pub overflow_add-least : goal.overflow_add-least
overflow_add-least c =
    record { fits = reading.more_fits c.args.low.now c.args.l c.args.k c.requires.0 c.requires.1 c.bits_at-bits.result c.args.strict }

pub returns-then-l-le32 : goal.returns-then-l-le32
returns-then-l-le32 c =
    reading.rises-one c.args.low.now c.args.l c.args.k c.requires.0 c.requires.1 (flag c.args.strict) c.bits_at-bits.result c.if-l-le32.true c.bits_at-bits.ensures

pub returns : goal.returns
returns c =
    reading.rises-two c.args.low.now c.args.l c.args.k c.requires.0 c.requires.1 (flag c.args.strict) c.bits_at-bits.result c.bits_at.result c.bits_at-bits.ensures c.bits_at.ensures
