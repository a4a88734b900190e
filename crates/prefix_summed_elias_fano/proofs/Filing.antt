-- The prefix sums as a list of times: its settings, the room for its image, and the words while the sums are filed. Assumes nothing.
use mathlib.Core.Path.{◌≡◌, refl, sym, ap, ◌∙◌, subst⁻¹}
use mathlib.Core.List.{List, ◌++◌}
use mathlib.Core.Bool.{true, false}
use Prim.Native.Nat.{ℕ, suc, ◌*◌, ◌^◌, ◌≤◌, ◌<◌}
use native.Mathlib.Nat.{le_refl, le_of_eq}
use native.Mathlib.Omega.{arith}
use lib.Dec.{leb}
use lib.ListN.{length, take, drop}
use lib.Seq.{take_all}
use Rattle.bit_words.proofs.Runs.{Fit}
use Rattle.darray_positions.specs.Index.{blocks, before}
use Rattle.elias_fano_words.specs.Image.{high_positions}
use Rattle.elias_fano_words.specs.Sizes.{start_len, sizes_of, image_len, limit}
use Rattle.elias_fano_words.specs.Times.{last_of}
use Rattle.elias_fano_words.specs.declared.sizes.Sizes.{Sizes}
use Rattle.elias_fano_words.proofs.Lengths.{ones_many}
use Rattle.elias_fano.specs.Finishing.{Finishable, filed_in}
use Rattle.elias_fano.specs.Made.{builder}
use Rattle.elias_fano.specs.Steps.{filed, image_of, finished_words}
use Rattle.elias_fano.specs.Testing.{Fileable}
use Rattle.elias_fano.specs.declared.builder.Builder.{Builder}
use Rattle.elias_fano.proofs.Images.{Fits}
use Rattle.elias_fano.proofs.Listing as listing
use Rattle.elias_fano.proofs.Parts as parts
use Rattle.prefix_summed_elias_fano.specs.Building.{Summable, filed_sums}
use Rattle.prefix_summed_elias_fano.specs.Sums.{sum, sums, sums_image}
use Rattle.prefix_summed_elias_fano.proofs.Sums as sums-law

-- the words with the first i sums filed
abbrev pub filed_first : List ℕ → List ℕ → ℕ → List ℕ
filed_first A w i = filed_in (suc (sum A)) (length A) (take i (sums A)) w

module _ (A : List ℕ) (ok : Summable A) where
  abbrev u : ℕ
  u = suc (sum A)

  abbrev n : ℕ
  n = length A

  abbrev T : List ℕ
  T = sums A

  many : length (sums A) ≡ length A
  many = sums-law.length-sums 0 A

  pub fits : Fits (suc (sum A)) (length A) (sums A)
  fits = record { small = let a = ok.small in omega arith; some = ok.some; most = ok.most; few = le_of_eq many; rises = sums-law.sums_rise A }

  pub six_le : 6 ≤ length (sums_image A)
  unfolding sums_image
  six_le = (parts.headed u n false T fits).six

  pub positions_many : length (high_positions (suc (sum A)) (length A) true (sums A)) ≡ length A
  positions_many = ones_many u n T fits.rises fits.few ∙ many

  -- ---- the room for the image

  pub start-room : (k : ℕ) → length (sums_image A) ≤ k → start_len (suc (sum A)) (length A) ≤ k
  unfolding sums_image
  start-room k h = let a = listing.start_le u n T fits many false in omega arith

  module _ (s : Sizes) (es : s ≡ sizes_of (suc (sum A)) (length A)) where
    pub limit_ready : (s.start_len < 2 ^ 32) × (s.high_len < 2 ^ 32) × (length A < 2 ^ 32)
    limit_ready = listing.limit_ready u n T fits many false s es

    pub limit_room : (x k : ℕ) → ((v : ℕ) → s ≡ sizes_of v (length A) → x ≡ limit v (length A) false) → x ≤ k → true ≡ leb (length (sums_image A)) k
    unfolding sums_image
    limit_room x k e = listing.limit_room u n T fits many false s es x k (e u es)

    module _ (o : ℕ) (eo : o ≡ before (high_positions (suc (sum A)) (length A) true (sums A)) (blocks (high_positions (suc (sum A)) (length A) true (sums A)))) where
      pub len_ready : (s.low_at < 2 ^ 32) × (length A * s.low_len < 2 ^ 32) × (s.high_len < 2 ^ 32) × (length A ≤ s.high_len) × (o < 2 ^ 32) × (0 < 2 ^ 32)
      len_ready = listing.len_ready u n T fits many false s es o 0 eo refl

      pub measured_is : (k : ℕ) → ((v m : ℕ) → s ≡ sizes_of v m → k ≡ image_len v m (length A) false o 0) → k ≡ length (sums_image A)
      unfolding sums_image
      measured_is k e = listing.measured_is u n T fits many false s es o 0 eo refl k (λ v m h. e v m h ∙ ap (λ (j : ℕ). image_len v m j false o 0) (sym many))

  -- ---- filing

  module _ (w : List ℕ) (fw : Fit w) (long : start_len (suc (sum A)) (length A) ≤ length w) where
    module _ (i : ℕ) (h : i < length A) where
      last_is : last_of (take i (sums A)) ≡ sum (take i A)
      last_is = sums-law.last_sum A i (let a : i ≤ length A = omega arith in a)

      pub fileable : (x : ℕ) → x ≡ sum (take i A) → (t : ℕ) → t ≡ sum (take (suc i) A) → (s : Sizes) → s ≡ sizes_of u n → (k : ℕ) → k ≡ length w → (v : ℕ) → v ≡ suc (sum A) → Fileable (builder v (length A) i x) t k s
      fileable x ex t et s es k ek v ev = subst⁻¹ (λ (y : ℕ). Fileable (builder y (length A) i x) t k s) ev (listing.fileable u n T fits many w fw long i h x (ex ∙ sym last_is) t (et ∙ sym (sums-law.get_d_sums A i h)) s es k ek)

      pub files : (t : ℕ) → t ≡ sum (take (suc i) A) → (v : ℕ) → v ≡ suc (sum A) → (x : List ℕ) → x ≡ filed_first A w i → filed v (length A) i t x ≡ filed_first A w (suc i)
      files t et v ev x ex = ap (λ (y : ℕ). filed y n i t x) ev ∙ listing.files u n T fits many w fw long i h t (et ∙ sym (sums-law.get_d_sums A i h)) x ex

    -- ---- the finish, of the builder and the words as the program has them

    last_all : last_of (sums A) ≡ sum A
    last_all = ap last_of (sym (take_all n T (le_of_eq many))) ∙ sums-law.last_sum A n (le_refl n) ∙ sums-law.sum-whole A

    module _ (b : Builder) (eb : b ≡ builder (suc (sum A)) (length A) (length A) (sum A)) (x : List ℕ) (ex : x ≡ filed_sums A w) where
      numbers_are : b ≡ builder (suc (sum A)) (length A) (length A) (last_of (sums A))
      numbers_are = eb ∙ ap (builder u n n) (sym last_all)

      pub ready : (s : Sizes) → s ≡ sizes_of (suc (sum A)) (length A) → length (sums_image A) ≤ length w → Finishable b false s x
      unfolding sums_image
      ready s es r = listing.ready u n T fits many w fw long false b numbers_are x ex s es r

      pub wrote : (y : List ℕ) → y ≡ finished_words b false x → y ≡ sums_image A ++ drop (length (sums_image A)) w
      unfolding sums_image
      wrote y e = listing.wrote u n T fits many w fw long false b numbers_are x ex y e

      pub wrote_length : (k : ℕ) → k ≡ length (image_of b false x) → k ≡ length (sums_image A)
      unfolding sums_image
      wrote_length k e = listing.wrote_length u n T fits many w fw long false b numbers_are x ex k e
