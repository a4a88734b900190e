-- `bit_words::skip_words` meets its contract.
-- Assumes nothing.
use Rattle.std.proofs.Common.{rules, arith}
use Rattle.bit_words.proofs.Runs.{turn}
use Rattle.bit_words.proofs.skip_words.Goals as goal

pub loop-word-preserved : goal.loop-word-preserved
loop-word-preserved c =
    let e = turn c.args.over_one c.args.words.now (λ i. (c.type_inv.words i).fits) c.loop-word.word c.word_over.result c.popcount-ones.result c.word_over.ensures c.popcount-ones.ensures in
    omega arith

pub returns-after-loop-word : goal.returns-after-loop-word
returns-after-loop-word c = record { from = search rules; upto = search rules; before = search rules; here = λ l. omega arith }

pub returns-then-left-ones : goal.returns-then-left-ones
returns-then-left-ones c =
    let e = turn c.args.over_one c.args.words.now (λ i. (c.type_inv.words i).fits) c.loop-word.word c.word_over.result c.popcount-ones.result c.word_over.ensures c.popcount-ones.ensures in
    record { from = search rules; upto = search rules; before = search rules; here = λ _. omega arith }
