-- `darray_positions::scan::place_at` meets its contract.
-- Assumes nothing.
use Rattle.std.proofs.Common.{arith, ℕ, sym, ap, ◌-◌, ◌∙◌}
use Rattle.broadword.specs.Bits.{bit}
use Rattle.broadword.specs.Places.{select}
use Rattle.broadword.proofs.Find.{selected}
use Rattle.darray_positions.proofs.Counts.{hit_at}
use Rattle.darray_positions.proofs.scan.place_at.Goals as goal

pub overflow_add-result : goal.overflow_add-result
overflow_add-result c = omega (arith, (selected (bit c.word_over-w.result) 64 _ _ c.select_in_word_within.ensures).within)

pub returns : goal.returns
returns c =
    hit_at c.args.over_one c.args.words.now (λ i. (c.type_inv.words i).fits) c.args.c c.args.k c.requires.0 c.select_in_word_within.result
    (sym c.select_in_word_within.ensures ∙ ap (λ (w : ℕ). select (bit w) 64 (c.args.k - c.args.c.before)) c.word_over-w.ensures)
