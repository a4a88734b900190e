-- `bit_words::find_within` meets its contract.
-- Assumes nothing.
use Rattle.std.specs.Prelude.{Some}
use mathlib.Core.Path.{◌≡◌}
use Prim.Native.Nat.{ℕ, ◌+◌, ◌*◌, ◌/◌, ◌≤◌, ◌<◌}
use native.Mathlib.Omega.{arith}
use Rattle.broadword.specs.Bits.{count}
use Rattle.broadword.specs.Places.{select}
use Rattle.bit_words.specs.Vector.{bit_over}
use Rattle.bit_words.proofs.Search.{ahead_at, ahead_past}
use Rattle.bit_words.proofs.find_within.Goals as goal

upto : (used from : ℕ) → from / 64 < used → from ≤ used * 64
upto used from h = omega arith

-- the place in the 64 bits
here : (c : goal.After-select_in_word_within) → (c.args.from + c.select_in_word_within.result < c.args.used * 64) × (select (bit_over c.args.over_one c.args.words.now) (c.args.used * 64) (count (bit_over c.args.over_one c.args.words.now) c.args.from + c.args.k) ≡ Some (c.args.from + c.select_in_word_within.result))
here c =
    ahead_at c.args.over_one c.args.words.now c.args.used c.args.from c.args.k c.window_over-bits.result c.window_over-bits.ensures c.requires.1 c.select_in_word_within.result (upto c.args.used c.args.from c.requires.0.start) c.select_in_word_within.ensures

pub overflow_add-result : goal.overflow_add-result
overflow_add-result c = let l = (here c).0 in let f = c.requires.0.few in omega arith

pub returns-then-k-popcount : goal.returns-then-k-popcount
returns-then-k-popcount c = (here c).1

pub find_by_words-requires : goal.find_by_words-requires
find_by_words-requires c =
    (c.requires.0, c.requires.1, ahead_past c.args.over_one c.args.words.now c.args.used c.args.from c.args.k c.window_over-bits.result c.window_over-bits.ensures c.requires.1 c.popcount.result c.popcount.ensures c.if-k-popcount.false (upto c.args.used c.args.from c.requires.0.start))
