-- `prefix_summed_elias_fano::build::measured_len` meets its contract.
-- Assumes nothing.
use mathlib.Core.Path.{ap}
use Rattle.elias_fano_words.specs.declared.sizes.Sizes.{Sizes}
use Rattle.prefix_summed_elias_fano.proofs.Filing as filing
use Rattle.prefix_summed_elias_fano.proofs.build.measured_len.Goals as goal

pub overflow_of-requires : goal.overflow_of-requires
overflow_of-requires c = (c.requires.0, ap (λ (z : Sizes). z.low_len) c.requires.1)

pub image_len-requires : goal.image_len-requires
image_len-requires c = filing.len_ready c.args.items.now c.requires.0 c.args.s c.requires.1 _ c.overflow_of.ensures

pub returns : goal.returns
returns c = filing.measured_is c.args.items.now c.requires.0 c.args.s c.requires.1 _ c.overflow_of.ensures _ c.image_len.ensures
