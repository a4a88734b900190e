-- `darray_positions::scan::advance` meets its contract.
-- Assumes nothing.
use Rattle.std.proofs.Common.{arith, ℕ, ◌∙◌, ap}
use Rattle.broadword.specs.Bits.{ones}
use Rattle.darray_positions.proofs.Counts.{count_up}
use Rattle.darray_positions.proofs.scan.advance.Goals as goal

pub loop-word-preserved : goal.loop-word-preserved
loop-word-preserved c =
    (count_up c.args.over_one c.args.words.now (λ i. (c.type_inv.words i).fits) c.loop-word.before c.loop-word.word c.popcount-n.result c.loop-word.invariant.0 (c.popcount-n.ensures ∙ ap (λ (w : ℕ). ones w 64) c.word_over.ensures), omega arith)
