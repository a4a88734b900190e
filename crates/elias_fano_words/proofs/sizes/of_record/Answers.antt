-- `elias_fano_words::sizes::of_record` meets its contract.
-- Assumes nothing.
use mathlib.Core.Path.{ap, ap₂, ◌∙◌}
use Prim.Native.Nat.{ℕ, ◌+◌, ◌*◌, ◌/◌, ◌^◌, ◌≤◌}
use native.Mathlib.Omega.{arith}
use Rattle.bit_words.specs.Vector.{words_for}
use Rattle.elias_fano_words.specs.Sizes.{high_len, start_len}
use Rattle.elias_fano_words.proofs.Bounds as bounds
use Rattle.elias_fano_words.proofs.sizes.of_record.Goals as goal

pub overflow_shr-high : goal.overflow_shr-high
overflow_shr-high c = let l = bounds.low_lt c.args.universe c.args.num_vals c.ranges.universe.fits c.requires.0 in let e = c.low_len-low.ensures in omega arith

-- how large the high length and the number of low bits may be
high_few : (c : goal.After-low_len-low) → c.args.num_vals + 2 + c.args.universe / 2 ^ c.low_len-low.result ≤ 3 * 16777216 + 1
high_few c = bounds.high_bound c.args.universe c.args.num_vals c.ranges.universe.fits c.requires.0 c.requires.1 _ c.low_len-low.ensures

low_few : (c : goal.After-low_len-low) → c.args.num_vals * c.low_len-low.result ≤ 16777216 * 63
low_few c = bounds.low_product c.args.universe c.args.num_vals c.ranges.universe.fits c.requires.0 c.requires.1 _ c.low_len-low.ensures

pub overflow_add-high-2 : goal.overflow_add-high-2
overflow_add-high-2 c = let h = high_few c in record { fits = omega arith }

pub overflow_add-low_at : goal.overflow_add-low_at
overflow_add-low_at c = let h = high_few c.before in let e = c.words_for-low_at.ensures in record { fits = omega arith }

pub overflow_mul-num_vals : goal.overflow_mul-num_vals
overflow_mul-num_vals c = let l = low_few c.before in record { fits = omega arith }

pub overflow_add-result : goal.overflow_add-result
overflow_add-result c =
    let h = high_few c.before.before in
    let l = low_few c.before.before in
    let e = c.words_for-low_at.ensures in
    let d = c.words_for.ensures in
    record { fits = omega arith }

pub returns : goal.returns
unfolding high_len start_len
returns c =
    let u : ℕ = c.args.universe in
    let n : ℕ = c.args.num_vals in
    let l : ℕ = c.low_len-low.result in
    ap₂ (λ (a b : ℕ). record { low_len = l; high_len = n + 2 + u / 2 ^ l; low_at = 6 + a; start_len = 6 + a + b }) c.words_for-low_at.ensures c.words_for.ensures
    ∙ ap (λ (l : ℕ). record { low_len = l; high_len = n + 2 + u / 2 ^ l; low_at = 6 + words_for (n + 2 + u / 2 ^ l); start_len = 6 + words_for (n + 2 + u / 2 ^ l) + words_for (n * l) }) c.low_len-low.ensures
