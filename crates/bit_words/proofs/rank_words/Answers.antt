-- `bit_words::rank_words` meets its contract.
-- Assumes nothing.
use Rattle.std.proofs.Common.{arith, ◌≡◌, ◌+◌, ◌*◌, ◌/◌, ◌∙◌, ap}
use Rattle.broadword.specs.Bits.{count}
use Rattle.bit_words.specs.Vector.{bit_at}
use Rattle.bit_words.proofs.Runs.{rank_from, rank_part, rank_le}
use Rattle.bit_words.proofs.rank_words.Goals as goal
use Rattle.bit_words.proofs.rank_words.Goals.{After-popcount}

-- the whole words, and of the last its low bits
all : (c : After-popcount) → c.count_words-r.result + c.popcount.result ≡ count (bit_at c.args.words.now) c.args.pos
all c =
    rank_part c.args.words.now c.count_words-r.result c.popcount.result c.args.pos (c.args.pos / 64)
    (rank_from c.args.words.now (c.args.pos / 64) c.count_words-r.result c.count_words-r.ensures) (omega arith) c.popcount.ensures

pub returns-then-left-eq0 : goal.returns-then-left-eq0
returns-then-left-eq0 c =
    let e : c.args.pos / 64 * 64 ≡ c.args.pos = omega arith in
    rank_from c.args.words.now (c.args.pos / 64) c.count_words-r.result c.count_words-r.ensures ∙ ap (count (bit_at c.args.words.now)) e

pub overflow_add-result : goal.overflow_add-result
overflow_add-result c = let e = all c in omega (arith, rank_le c.args.words.now c.args.pos)

pub returns : goal.returns
returns c = all c
