-- `elias_fano::image::parts_of` meets its contract.
-- Assumes nothing.
use mathlib.Core.Path.{ap, ap₂, ◌∙◌}
use mathlib.Core.Bool.{Bool}
use Prim.Native.Nat.{ℕ, ◌+◌, ◌*◌}
use Rattle.bit_words.specs.Vector.{words_for}
use Rattle.elias_fano_words.specs.declared.sizes.Sizes.{Sizes}
use Rattle.elias_fano.specs.Accept.{parts_by}
use Rattle.elias_fano.proofs.Limits as limits
use Rattle.elias_fano.proofs.image.parts_of.Goals as goal

pub overflow_mul-m : goal.overflow_mul-m
overflow_mul-m c = limits.product_fits c.args.universe c.args.num_vals c.args.num_pushed c.ranges.universe.fits c.requires.0 c.requires.1 c.requires.2 _ (ap (λ (s : Sizes). s.low_len) c.of_record-s.ensures)

pub overflow_add-ones_at : goal.overflow_add-ones_at
overflow_add-ones_at c = limits.ones-fits c.args.universe c.args.num_vals c.args.num_pushed c.ranges.universe.fits c.requires.0 c.requires.1 c.requires.2 _ _ (c.words_for-low_at.ensures ∙ ap (λ (s : Sizes). words_for s.high_len) c.of_record-s.ensures) (c.words_for.ensures ∙ ap (λ (s : Sizes). words_for (c.args.num_pushed * s.low_len)) c.of_record-s.ensures)

pub overflow_add-result : goal.overflow_add-result
overflow_add-result c = limits.zeros-fits c.args.universe c.args.num_vals c.args.num_pushed c.ranges.universe.fits c.requires.0 c.requires.1 c.requires.2 _ _ (c.words_for-low_at.ensures ∙ ap (λ (s : Sizes). words_for s.high_len) c.of_record-s.ensures) (c.words_for.ensures ∙ ap (λ (s : Sizes). words_for (c.args.num_pushed * s.low_len)) c.of_record-s.ensures) _ _ c.index_len.ensures c.requires.3

pub returns : goal.returns
unfolding parts_by
returns c =
    let u : ℕ = c.args.universe in
    let n : ℕ = c.args.num_vals in
    let m : ℕ = c.args.num_pushed in
    let b : Bool = c.args.rank in
    let k : ℕ = c.args.overflow in
    ap₂ (λ (h p : ℕ). record { universe = u; num_vals = n; num_pushed = m; rank = b; low_len = c.of_record-s.result.low_len; high_len = c.of_record-s.result.high_len; low_at = 6 + h; ones_at = 6 + h + p; zeros_at = 6 + h + p + c.index_len.result }) c.words_for-low_at.ensures c.words_for.ensures
    ∙ ap₂ (λ (s : Sizes) (x : ℕ). record { universe = u; num_vals = n; num_pushed = m; rank = b; low_len = s.low_len; high_len = s.high_len; low_at = 6 + words_for s.high_len; ones_at = 6 + words_for s.high_len + words_for (m * s.low_len); zeros_at = 6 + words_for s.high_len + words_for (m * s.low_len) + x }) c.of_record-s.ensures c.index_len.ensures
