-- `bit_words::find_from` meets its contract.
-- Assumes nothing.
use Rattle.std.specs.Prelude.{Some}
use mathlib.Core.Path.{◌≡◌, sym, subst}
use Prim.Native.Nat.{ℕ, ◌*◌, ◌/◌, ◌%◌, ◌^◌, ◌<◌}
use native.Mathlib.Omega.{arith}
use lib.Arith.{lt_of_le-ne}
use lib.ListN.{get_or}
use Rattle.broadword.specs.Bits.{bit, ones}
use Rattle.broadword.proofs.Find.{selected}
use Rattle.bit_words.specs.Vector.{word_over}
use Rattle.bit_words.proofs.Runs.{left_lt}
use Rattle.bit_words.proofs.Search.{first_is, find_first, find_none, find_word}
use Rattle.bit_words.proofs.find_from.Goals as goal

pub overflow_add-result : goal.overflow_add-result
overflow_add-result c =
    let from : ℕ = c.args.from in
    let x : ℕ = (c.word_over.result / 2 ^ (from % 64) * 2 ^ (from % 64)) % 2 ^ 64 in
    let t = (selected (bit (x)) 64 c.args.k c.select_in_word_within.result c.select_in_word_within.ensures).within in
    let q = c.requires.start in
    let f = c.requires.few in
    omega arith

pub returns-then-k-ones : goal.returns-then-k-ones
returns-then-k-ones c =
    let from : ℕ = c.args.from in
    let x : ℕ = (c.word_over.result / 2 ^ (from % 64) * 2 ^ (from % 64)) % 2 ^ 64 in
    let rest : x ≡ word_over c.args.over_one (get_or c.args.words.now (from / 64) 0) / 2 ^ (from % 64) * 2 ^ (from % 64) = first_is c.args.over_one c.args.words.now (λ i. (c.shared_slice_known-1.given i).fits) from c.word_over.result c.word_over.ensures in
    let fewer : c.args.k < ones (x) 64 = subst (λ (n : ℕ). c.args.k < n) c.popcount-ones.ensures c.if-k-ones.true in
    find_first c.args.over_one c.args.words.now (λ i. (c.shared_slice_known-1.given i).fits) c.args.from (x) (rest) c.args.used c.args.k (Some c.select_in_word_within.result) c.requires.start (fewer) (sym c.select_in_word_within.ensures)

pub returns-then-spot-used : goal.returns-then-spot-used
returns-then-spot-used c =
    let from : ℕ = c.args.from in
    let x : ℕ = (c.word_over.result / 2 ^ (from % 64) * 2 ^ (from % 64)) % 2 ^ 64 in
    let rest : x ≡ word_over c.args.over_one (get_or c.args.words.now (from / 64) 0) / 2 ^ (from % 64) * 2 ^ (from % 64) = first_is c.args.over_one c.args.words.now (λ i. (c.shared_slice_known-1.given i).fits) from c.word_over.result c.word_over.ensures in
    find_none c.args.over_one c.args.words.now (λ i. (c.shared_slice_known-1.given i).fits) c.args.from (x) (rest) c.args.used c.args.k c.popcount-ones.result c.skip_words-spot.result.word c.skip_words-spot.result.left c.popcount-ones.ensures c.if-k-ones.false c.skip_words-spot.ensures c.if-spot-used.true

pub select_in_word_within-requires-2 : goal.select_in_word_within-requires-2
select_in_word_within-requires-2 c =
    let in_used : c.skip_words-spot.result.word < c.args.used = lt_of_le-ne c.skip_words-spot.ensures.upto c.if-spot-used.false in
    let k = c.skip_words-spot in
    (left_lt c.args.over_one c.args.words.now (λ i. (c.shared_slice_known-1.given i).fits) k.result.word k.result.left c.word_over-bits.result c.word_over-bits.ensures (k.ensures.here (in_used)))

pub overflow_add-result-2 : goal.overflow_add-result-2
overflow_add-result-2 c =
    let in_used : c.skip_words-spot.result.word < c.args.used = lt_of_le-ne c.skip_words-spot.ensures.upto c.if-spot-used.false in
    let t = (selected (bit c.word_over-bits.result) 64 c.skip_words-spot.result.left c.select_in_word_within-2.result c.select_in_word_within-2.ensures).within in
    let u = in_used in
    let f = c.requires.few in
    omega arith

pub returns : goal.returns
returns c =
    let from : ℕ = c.args.from in
    let x : ℕ = (c.word_over.result / 2 ^ (from % 64) * 2 ^ (from % 64)) % 2 ^ 64 in
    let rest : x ≡ word_over c.args.over_one (get_or c.args.words.now (from / 64) 0) / 2 ^ (from % 64) * 2 ^ (from % 64) = first_is c.args.over_one c.args.words.now (λ i. (c.shared_slice_known-1.given i).fits) from c.word_over.result c.word_over.ensures in
    let in_used : c.skip_words-spot.result.word < c.args.used = lt_of_le-ne c.skip_words-spot.ensures.upto c.if-spot-used.false in
    let k = c.skip_words-spot in
    find_word c.args.over_one c.args.words.now (λ i. (c.shared_slice_known-1.given i).fits) c.args.from (x) (rest) c.args.used c.args.k c.popcount-ones.result k.result.word k.result.left c.popcount-ones.ensures c.if-k-ones.false k.ensures c.word_over-bits.result (Some c.select_in_word_within-2.result) c.word_over-bits.ensures (in_used) (sym c.select_in_word_within-2.ensures)
