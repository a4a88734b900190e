-- `elias_fano_words::sizes::low_len` meets its contract: it is the definition.
-- Assumes nothing.
use mathlib.Core.Path.{ap, ◌∙◌}
use Rattle.std.specs.Prelude.{ℕ, Option, unwrap_or}
use Rattle.elias_fano_words.specs.Sizes.{low_len}
use Rattle.elias_fano_words.proofs.sizes.low_len.Goals as goal

pub returns : goal.returns
unfolding low_len
returns c = c.unwrap_or.ensures ∙ ap (λ (f : Option ℕ). unwrap_or f 0) c.msb.ensures
