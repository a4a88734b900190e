-- `bit_vectors::unary::skip_zeros` meets its contract.
-- Assumes nothing.
use Rattle.std.proofs.Common.{rules, arith, true, ℕ, ap, ◌∙◌}
use Rattle.broadword.specs.Bits.{ones}
use Rattle.bit_words.proofs.Runs.{over_next}
use Rattle.bit_vectors.proofs.OneAhead.{zero_ones, some_ones}
use Rattle.bit_vectors.proofs.unary.skip_zeros.Goals as goal

pub loop-word-preserved : goal.loop-word-preserved
loop-word-preserved c =
    let o = ap (λ (w : ℕ). ones w 64) c.if-words-word-ne0.false ∙ zero_ones 64 in
    omega (arith, over_next true c.args.words.now (λ i. (c.type_inv.words i).fits) c.loop-word.word)

pub returns-then-words-word-ne0 : goal.returns-then-words-word-ne0
returns-then-words-word-ne0 c =
    let o = some_ones _ (c.type_inv.words c.loop-word.word).fits c.if-words-word-ne0.true in
    record { from = search rules; upto = search rules; before = omega arith; here = λ _. omega (arith, over_next true c.args.words.now (λ i. (c.type_inv.words i).fits) c.loop-word.word) }
