-- The places at which a value is filed: they are in the words, and no sum or product on the way leaves a word. Assumes nothing.
use mathlib.Core.Path.{◌≡◌, sym, ap, ap₂, ◌∙◌, subst}
use mathlib.Core.List.{List}
use Prim.Native.Nat.{ℕ, ◌+◌, ◌-◌, ◌*◌, ◌/◌, ◌%◌, ◌^◌, ◌≤◌, ◌<◌}
use native.Mathlib.Nat.{mod-lt, mod-eq_of_lt, div-add-mod', lt_of_le_of_lt, lt_of_lt_of_le, le_of_lt}
use native.Mathlib.Omega.{arith}
use mir.Syntax.{w64}
use mir.Val.{Fits}
use lib.Pow.{pow_pos}
use Rattle.bit_words.specs.Vector.{words_for, overwrite}
use Rattle.elias_fano_words.specs.Sizes.{low_len, high_len, start_len}
use Rattle.elias_fano_words.specs.declared.sizes.Sizes.{Sizes}
use Rattle.elias_fano_words.proofs.Bounds.{low_lt}
use Rattle.elias_fano.specs.declared.builder.Builder.{Builder}
use Rattle.elias_fano.specs.Steps.{filed}
use Rattle.elias_fano.specs.Testing.{Fileable}
use Rattle.elias_fano.proofs.Cases as cases
use Rattle.elias_fano.proofs.Filing.{place_lt, low_room}
use Rattle.elias_fano.proofs.Limits as limits

module _ (b : Builder) (t k : ℕ) (s : Sizes) (hu : b.universe < 2 ^ 64) (f : Fileable b t k s) where
  abbrev u : ℕ
  u = b.universe

  abbrev n : ℕ
  n = b.num_vals

  abbrev m : ℕ
  m = b.num_pushed

  abbrev low : ℕ
  low = s.low_len

  known : cases.Sound b
  known = cases.is_sound b f.roomy.is_sound

  few : m < n
  few = let g = known.few in let h = f.more in omega arith

  low_is : low ≡ low_len u n
  low_is = ap (λ (z : Sizes). z.low_len) f.roomy.sizes

  low_at_is : s.low_at ≡ 6 + words_for (high_len u n)
  low_at_is = ap (λ (z : Sizes). z.low_at) f.roomy.sizes

  pub low_small : low < 64
  low_small = subst (λ (y : ℕ). y < 64) (sym low_is) (low_lt u n hu known.some)

  place_small : t / 2 ^ low + m < high_len u n
  place_small = subst (λ (y : ℕ). t / 2 ^ y + m < high_len u n) (sym low_is) (place_lt u n t m f.below few)

  high_small : high_len u n ≤ 50331649
  high_small = limits.high_small u n m hu known.some known.most known.few

  pub place_fits : Fits w64 (t / 2 ^ low + m)
  place_fits = record { fits = let a = place_small in let c = high_small in omega arith }

  pub high_place_fits : Fits w64 (64 * 6 + (t / 2 ^ low + m))
  high_place_fits = record { fits = let a = place_small in let c = high_small in omega arith }

  pub high_word : (64 * 6 + (t / 2 ^ low + m)) / 64 < k
  unfolding start_len
  high_word = let a = place_small in let l = f.roomy.long in omega arith

  product_small : m * low ≤ 16777216 * 63
  product_small = subst (λ (y : ℕ). m * y ≤ 16777216 * 63) (sym low_is) (limits.product_small u n m hu known.some known.most known.few)

  pub low_bit-fits : Fits w64 (m * low)
  low_bit-fits = record { fits = let a = product_small in omega arith }

  pub low_words-fit : Fits w64 (64 * s.low_at)
  low_words-fit = record { fits = let a = high_small in let e = low_at_is in omega arith }

  pub low_place_fits : Fits w64 (64 * s.low_at + m * low)
  low_place_fits = record { fits = let a = high_small in let e = low_at_is in let c = product_small in omega arith }

  pub low_places : (i : ℕ) → i ≡ k → 64 * s.low_at + m * low + low ≤ 64 * i
  unfolding start_len
  low_places i ei =
      let a : m * low + low ≤ n * low_len u n = subst (λ (y : ℕ). m * y + y ≤ n * low_len u n) (sym low_is) (low_room u n m few) in
      let e = low_at_is in
      let l = f.roomy.long in
      omega arith

  -- ---- the low bits: the value less its high bits

  -- the high bits at their places
  raised : (t / 2 ^ low * 2 ^ low) % 2 ^ 64 + t % 2 ^ low ≡ t
  raised =
      let d = div-add-mod' t (2 ^ low) in
      ap (λ (x : ℕ). x + t % 2 ^ low) (mod-eq_of_lt (lt_of_le_of_lt (le_of_sum (t / 2 ^ low * 2 ^ low) (t % 2 ^ low) t d) (lt_of_lt_of_le f.below (le_of_lt hu)))) ∙ d
    where
      le_of_sum : (x y z : ℕ) → x + y ≡ z → x ≤ z
      le_of_sum x y z e = omega arith

  pub raised_le : (t / 2 ^ low * 2 ^ low) % 2 ^ 64 ≤ t
  raised_le = let e = raised in omega arith

  pub rest_is : t - (t / 2 ^ low * 2 ^ low) % 2 ^ 64 ≡ t % 2 ^ low
  rest_is = let e = raised in omega arith

  pub rest_small : t - (t / 2 ^ low * 2 ^ low) % 2 ^ 64 < 2 ^ low
  rest_small = subst (λ (z : ℕ). z < 2 ^ low) (sym rest_is) (mod-lt t (pow_pos low))

  pub filed_is : (w : List ℕ) → overwrite (overwrite w (64 * 6 + (t / 2 ^ low + m)) 1 1) (64 * s.low_at + m * low) low (t - (t / 2 ^ low * 2 ^ low) % 2 ^ 64) ≡ filed u n m t w
  unfolding filed
  filed_is w =
      ap₂ (λ (a y : ℕ). overwrite (overwrite w (64 * 6 + (t / 2 ^ low + m)) 1 1) (64 * a + m * low) low y) low_at_is rest_is
      ∙ ap (λ (l : ℕ). overwrite (overwrite w (64 * 6 + (t / 2 ^ l + m)) 1 1) (64 * (6 + words_for (high_len u n)) + m * l) l (t % 2 ^ l)) low_is
