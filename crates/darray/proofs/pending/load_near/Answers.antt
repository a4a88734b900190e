-- `darray::pending::load_near` meets its contract: whether the block overflows is seen by the positions that are stored.
-- Assumes nothing.
use mathlib.Core.Path.{sym, ◌∙◌, subst}
use mathlib.Core.Bool.{Bool, false}
use Rattle.bit_words.specs.Vector.{bit_over}
use Rattle.darray.specs.Pending.{Sampled, block_wide}
use Rattle.darray.proofs.Sampling as sampling
use Rattle.darray.proofs.pending.load_near.Goals as goal

pub is_wide-requires : goal.is_wide-requires
is_wide-requires c =
    sampling.sampled_rises (bit_over c.args.over_one c.args.words.now) c.args.k c.args.size false c.sample-next.new.a c.requires.some c.sample-next.ensures.0

pub returns-else-is_wide : goal.returns-else-is_wide
unfolding block_wide
returns-else-is_wide c =
    let e = c.sample-next in
    record {
      sampled = subst (λ (w : Bool). Sampled (bit_over c.args.over_one c.args.words.now) c.args.k c.args.size w e.new.a) (sym c.if-is_wide.false ∙ c.is_wide.ensures) e.ensures.0;
      next = e.ensures.1;
    }
