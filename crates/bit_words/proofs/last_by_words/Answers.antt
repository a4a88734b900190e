-- `bit_words::last_by_words` meets its contract.
-- Assumes nothing.
use Rattle.std.proofs.Common.{arith, ◌≡◌, ◌+◌, ◌-◌, ◌∙◌, sym, ap}
use Rattle.broadword.specs.Places.{last}
use Rattle.bit_words.specs.Vector.{bit_at}
use Rattle.bit_words.proofs.Last.{some_place, some_there}
use Rattle.bit_words.proofs.Runs.{bit_at_le}
use Rattle.bit_words.proofs.last_by_words.Goals as goal

pub overflow_sub-end : goal.overflow_sub-end
overflow_sub-end c = some_place (bit_at c.args.words.now) c.args.end c.requires.1

pub last_upto-requires : goal.last_upto-requires
last_upto-requires c = let e = some_place (bit_at c.args.words.now) c.args.end c.requires.1 in omega (arith, c.requires.0)

pub unwrap-requires : goal.unwrap-requires
unwrap-requires c =
    let e = some_place (bit_at c.args.words.now) c.args.end c.requires.1 in
    let d : c.args.end - 1 + 1 ≡ c.args.end = omega arith in
    some_there (bit_at c.args.words.now) (bit_at_le c.args.words.now) c.args.end c.requires.1 _ (c.last_upto.ensures ∙ ap (last (bit_at c.args.words.now)) d)

pub returns : goal.returns
returns c =
    let e = some_place (bit_at c.args.words.now) c.args.end c.requires.1 in
    let d : c.args.end - 1 + 1 ≡ c.args.end = omega arith in
    ap (last (bit_at c.args.words.now)) (sym d) ∙ sym c.last_upto.ensures ∙ c.unwrap.ensures
