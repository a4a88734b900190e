-- `bit_words::find_by_words` meets its contract.
-- Assumes nothing.
use Rattle.std.specs.Prelude.{Some}
use mathlib.Core.Path.{◌≡◌, sym}
use Prim.Native.Nat.{ℕ, ◌*◌, ◌/◌, ◌%◌, ◌^◌, ◌≤◌}
use native.Mathlib.Omega.{arith}
use lib.ListN.{get_or}
use Rattle.broadword.specs.Bits.{bit}
use Rattle.broadword.proofs.Find.{selected}
use Rattle.bit_words.specs.Vector.{word_over}
use Rattle.bit_words.proofs.Runs.{left_lt}
use Rattle.bit_words.proofs.Search.{first_is, first_over, find_word, spot_used}
use Rattle.bit_words.proofs.find_by_words.Goals as goal

pub overflow_sub-k : goal.overflow_sub-k
overflow_sub-k c =
    let from : ℕ = c.args.from in
    let x : ℕ = (c.word_over.result / 2 ^ (from % 64) * 2 ^ (from % 64)) % 2 ^ 64 in
    let rest : x ≡ word_over c.args.over_one (get_or c.args.words.now (from / 64) 0) / 2 ^ (from % 64) * 2 ^ (from % 64) = first_is c.args.over_one c.args.words.now (λ i. (c.shared_slice_known-1.given i).fits) from c.word_over.result c.word_over.ensures in
    let fewer : c.popcount-rest.result ≤ c.args.k = let o = first_over c.args.over_one c.args.words.now (λ i. (c.shared_slice_known-1.given i).fits) from x rest in
    omega (arith, c.popcount-rest.ensures, c.requires.2) in
    fewer

pub word_over-bits-requires : goal.word_over-bits-requires
word_over-bits-requires c =
    let from : ℕ = c.args.from in
    let x : ℕ = (c.word_over.result / 2 ^ (from % 64) * 2 ^ (from % 64)) % 2 ^ 64 in
    let rest : x ≡ word_over c.args.over_one (get_or c.args.words.now (from / 64) 0) / 2 ^ (from % 64) * 2 ^ (from % 64) = first_is c.args.over_one c.args.words.now (λ i. (c.shared_slice_known-1.given i).fits) from c.word_over.result c.word_over.ensures in
    let fewer : c.popcount-rest.result ≤ c.args.k = let o = first_over c.args.over_one c.args.words.now (λ i. (c.shared_slice_known-1.given i).fits) from x rest in
    omega (arith, c.popcount-rest.ensures, c.requires.2) in
    let u = spot_used c.args.over_one c.args.words.now (λ i. (c.shared_slice_known-1.given i).fits) c.args.from (x) (rest) c.args.used c.args.k c.popcount-rest.result c.skip_words-spot.result.word c.skip_words-spot.result.left c.popcount-rest.ensures (fewer) c.skip_words-spot.ensures c.requires.1 in omega (arith, c.requires.0.room)

pub overflow_mul-result : goal.overflow_mul-result
overflow_mul-result c =
    let from : ℕ = c.args.from in
    let x : ℕ = (c.word_over.result / 2 ^ (from % 64) * 2 ^ (from % 64)) % 2 ^ 64 in
    let rest : x ≡ word_over c.args.over_one (get_or c.args.words.now (from / 64) 0) / 2 ^ (from % 64) * 2 ^ (from % 64) = first_is c.args.over_one c.args.words.now (λ i. (c.shared_slice_known-1.given i).fits) from c.word_over.result c.word_over.ensures in
    let fewer : c.popcount-rest.result ≤ c.args.k = let o = first_over c.args.over_one c.args.words.now (λ i. (c.shared_slice_known-1.given i).fits) from x rest in
    omega (arith, c.popcount-rest.ensures, c.requires.2) in
    let u = spot_used c.args.over_one c.args.words.now (λ i. (c.shared_slice_known-1.given i).fits) c.args.from (x) (rest) c.args.used c.args.k c.popcount-rest.result c.skip_words-spot.result.word c.skip_words-spot.result.left c.popcount-rest.ensures (fewer) c.skip_words-spot.ensures c.requires.1 in omega (arith, c.requires.0.few)

pub select_in_word_within-requires : goal.select_in_word_within-requires
select_in_word_within-requires c =
    let from : ℕ = c.args.from in
    let x : ℕ = (c.word_over.result / 2 ^ (from % 64) * 2 ^ (from % 64)) % 2 ^ 64 in
    let rest : x ≡ word_over c.args.over_one (get_or c.args.words.now (from / 64) 0) / 2 ^ (from % 64) * 2 ^ (from % 64) = first_is c.args.over_one c.args.words.now (λ i. (c.shared_slice_known-1.given i).fits) from c.word_over.result c.word_over.ensures in
    let fewer : c.popcount-rest.result ≤ c.args.k = let o = first_over c.args.over_one c.args.words.now (λ i. (c.shared_slice_known-1.given i).fits) from x rest in
    omega (arith, c.popcount-rest.ensures, c.requires.2) in
    (left_lt c.args.over_one c.args.words.now (λ i. (c.shared_slice_known-1.given i).fits) c.skip_words-spot.result.word c.skip_words-spot.result.left c.word_over-bits.result c.word_over-bits.ensures (c.skip_words-spot.ensures.here (spot_used c.args.over_one c.args.words.now (λ i. (c.shared_slice_known-1.given i).fits) c.args.from (x) (rest) c.args.used c.args.k c.popcount-rest.result c.skip_words-spot.result.word c.skip_words-spot.result.left c.popcount-rest.ensures (fewer) c.skip_words-spot.ensures c.requires.1)))

pub overflow_add-result : goal.overflow_add-result
overflow_add-result c =
    let from : ℕ = c.args.from in
    let x : ℕ = (c.word_over.result / 2 ^ (from % 64) * 2 ^ (from % 64)) % 2 ^ 64 in
    let rest : x ≡ word_over c.args.over_one (get_or c.args.words.now (from / 64) 0) / 2 ^ (from % 64) * 2 ^ (from % 64) = first_is c.args.over_one c.args.words.now (λ i. (c.shared_slice_known-1.given i).fits) from c.word_over.result c.word_over.ensures in
    let fewer : c.popcount-rest.result ≤ c.args.k = let o = first_over c.args.over_one c.args.words.now (λ i. (c.shared_slice_known-1.given i).fits) from x rest in
    omega (arith, c.popcount-rest.ensures, c.requires.2) in
    let t = (selected (bit c.word_over-bits.result) 64 c.skip_words-spot.result.left c.select_in_word_within.result c.select_in_word_within.ensures).within in let u = spot_used c.args.over_one c.args.words.now (λ i. (c.shared_slice_known-1.given i).fits) c.args.from (x) (rest) c.args.used c.args.k c.popcount-rest.result c.skip_words-spot.result.word c.skip_words-spot.result.left c.popcount-rest.ensures (fewer) c.skip_words-spot.ensures c.requires.1 in omega (arith, c.requires.0.few)

pub returns : goal.returns
returns c =
    let from : ℕ = c.args.from in
    let x : ℕ = (c.word_over.result / 2 ^ (from % 64) * 2 ^ (from % 64)) % 2 ^ 64 in
    let rest : x ≡ word_over c.args.over_one (get_or c.args.words.now (from / 64) 0) / 2 ^ (from % 64) * 2 ^ (from % 64) = first_is c.args.over_one c.args.words.now (λ i. (c.shared_slice_known-1.given i).fits) from c.word_over.result c.word_over.ensures in
    let fewer : c.popcount-rest.result ≤ c.args.k = let o = first_over c.args.over_one c.args.words.now (λ i. (c.shared_slice_known-1.given i).fits) from x rest in
    omega (arith, c.popcount-rest.ensures, c.requires.2) in
    sym (find_word c.args.over_one c.args.words.now (λ i. (c.shared_slice_known-1.given i).fits) c.args.from (x) (rest) c.args.used c.args.k c.popcount-rest.result c.skip_words-spot.result.word c.skip_words-spot.result.left c.popcount-rest.ensures (fewer) c.skip_words-spot.ensures c.word_over-bits.result (Some c.select_in_word_within.result) c.word_over-bits.ensures (spot_used c.args.over_one c.args.words.now (λ i. (c.shared_slice_known-1.given i).fits) c.args.from (x) (rest) c.args.used c.args.k c.popcount-rest.result c.skip_words-spot.result.word c.skip_words-spot.result.left c.popcount-rest.ensures (fewer) c.skip_words-spot.ensures c.requires.1) (sym c.select_in_word_within.ensures))
