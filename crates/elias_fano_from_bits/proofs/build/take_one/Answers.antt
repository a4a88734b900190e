-- `elias_fano_from_bits::build::take_one` meets its contract.
-- Assumes nothing.
use mathlib.Core.Path.{ap, ◌∙◌, subst⁻¹}
use Rattle.std.specs.Prelude.{ℕ, Option, unwrap_or}
use Rattle.elias_fano_from_bits.specs.Building.{NextTaken}
use Rattle.elias_fano_from_bits.proofs.Taking as taking
use Rattle.elias_fano_from_bits.proofs.build.take_one.Goals as goal

pub returns : goal.returns
returns c =
    subst⁻¹ (λ (y : ℕ). NextTaken c.args.words.now c.args.len c.args.i (record { place = y; rest = c.next_within-s.result.walk })) (c.unwrap_or-2.ensures ∙ ap (λ (o : Option ℕ). unwrap_or o 0) c.unwrap_or.ensures)
    (taking.one_taken c.args.words.now c.args.len c.args.i c.args.w c.requires.0 c.requires.1 c.next_within-s.result c.next_within-s.ensures)
