-- `bit_words::count_words` meets its contract.
-- Assumes nothing.
use Rattle.std.proofs.Common.{arith, ◌-◌}
use Rattle.bit_words.proofs.Runs.{turn_part}
use Rattle.bit_words.proofs.count_words.Goals as goal

pub overflow_add-n : goal.overflow_add-n
overflow_add-n c =
    let e = turn_part c.args.over_one c.args.words.now (λ i. (c.type_inv.words i).fits) c.args.first (c.args.end - c.args.first) c.loop-w.w-index c.over.result c.popcount-n.result (omega arith) c.over.ensures c.popcount-n.ensures in
    omega arith

pub loop-w-preserved : goal.loop-w-preserved
loop-w-preserved c =
    let e = turn_part c.args.over_one c.args.words.now (λ i. (c.type_inv.words i).fits) c.args.first (c.args.end - c.args.first) c.loop-w.w-index c.over.result c.popcount-n.result (omega arith) c.over.ensures c.popcount-n.ensures in
    (omega arith, omega arith)
