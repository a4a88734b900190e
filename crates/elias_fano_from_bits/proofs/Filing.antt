-- The record of a bit vector: the room for its image, and the words while the places of the ones are filed. n is how many the program has counted. Assumes nothing.
use mathlib.Core.Path.{◌≡◌, refl, sym, ap, ap₂, ◌∙◌, subst⁻¹}
use mathlib.Core.List.{List, ◌++◌}
use mathlib.Core.Bool.{Bool, true, false, cond}
use Prim.Native.Nat.{ℕ, suc, ◌-◌, ◌*◌, ◌^◌, ◌≤◌, ◌<◌}
use native.Mathlib.Omega.{arith}
use lib.Dec.{leb}
use lib.ListN.{length, get_or, take, drop}
use Rattle.bit_words.proofs.Runs.{Fit}
use Rattle.darray_positions.specs.Index.{blocks, before}
use Rattle.elias_fano_words.specs.Sizes.{high_len, start_len, sizes_of, image_len, limit}
use Rattle.elias_fano_words.specs.Times.{last_of}
use Rattle.elias_fano_words.specs.declared.sizes.Sizes.{Sizes}
use Rattle.elias_fano.specs.Finishing.{Finishable, filed_in}
use Rattle.elias_fano.specs.Made.{builder}
use Rattle.elias_fano.specs.Steps.{filed, image_of, finished_words}
use Rattle.elias_fano.specs.Testing.{Fileable}
use Rattle.elias_fano.proofs.Images.{Fits}
use Rattle.elias_fano.proofs.Listing as listing
use Rattle.elias_fano_from_bits.specs.Building.{Countable, low_of, positions_of, Sizable, filed_ones}
use Rattle.elias_fano_from_bits.specs.FromBits.{ones_of, bits_image}
use Rattle.elias_fano_from_bits.proofs.Highs as highs
use Rattle.elias_fano_from_bits.proofs.Ones as ones

-- the words with the first i places filed
abbrev pub filed_first : List ℕ → ℕ → List ℕ → ℕ → List ℕ
filed_first ws len w i = filed_in len (length (ones_of ws len)) (take i (ones_of ws len)) w

-- ---- the sizes as the program has them

module _ (ws : List ℕ) (len n : ℕ) (s : Sizes) (q : Sizable ws len n s) where
  abbrev N : ℕ
  N = length (ones_of ws len)

  abbrev T : List ℕ
  T = ones_of ws len

  pub low_is : s.low_len ≡ low_of ws len
  low_is = ap (λ (r : Sizes). r.low_len) q.sizes

  pub ones_are : n ≡ length (positions_of ws len true)
  ones_are = q.number ∙ sym (highs.ones_many ws len q.countable)

  pub zeros_are : s.high_len - n ≡ length (positions_of ws len false)
  zeros_are = ap₂ (λ (r : Sizes) (m : ℕ). r.high_len - m) q.sizes q.number ∙ sym (highs.zeros_many ws len q.countable)

  pub high_enough : n ≤ s.high_len
  unfolding high_len
  high_enough = let a = ap (λ (r : Sizes). r.high_len) q.sizes in omega (arith, q.number)

  -- ---- the room for the image

  abbrev F : Fits len (length (ones_of ws len)) (ones_of ws len)
  F = ones.fits ws len q.countable

  module _ (c : Bool) where
    pub limit_ready : (s.start_len < 2 ^ 32) × (s.high_len < 2 ^ 32) × (n < 2 ^ 32)
    limit_ready = subst⁻¹ (λ (m : ℕ). (s.start_len < 2 ^ 32) × (s.high_len < 2 ^ 32) × (m < 2 ^ 32)) q.number (listing.limit_ready len N T F refl c s q.sizes)

    pub limit_room : (x k : ℕ) → ((u : ℕ) → s ≡ sizes_of u n → x ≡ limit u n c) → x ≤ k → true ≡ leb (length (bits_image ws len c)) k
    unfolding bits_image
    limit_room x k e = listing.limit_room len N T F refl c s q.sizes x k (e len (q.sizes ∙ ap (sizes_of len) (sym q.number)) ∙ ap (λ (m : ℕ). limit len m c) q.number)

    module _ (o z : ℕ) (eo : o ≡ before (positions_of ws len true) (blocks (positions_of ws len true))) (ez : z ≡ cond c (before (positions_of ws len false) (blocks (positions_of ws len false))) 0) where
      pub len_ready : (s.low_at < 2 ^ 32) × (n * s.low_len < 2 ^ 32) × (s.high_len < 2 ^ 32) × (n ≤ s.high_len) × (o < 2 ^ 32) × (z < 2 ^ 32)
      len_ready =
          subst⁻¹ (λ (m : ℕ). (s.low_at < 2 ^ 32) × (m * s.low_len < 2 ^ 32) × (s.high_len < 2 ^ 32) × (m ≤ s.high_len) × (o < 2 ^ 32) × (z < 2 ^ 32)) q.number
          (listing.len_ready len N T F refl c s q.sizes o z eo ez)

      pub measured_is : (k : ℕ) → ((u m : ℕ) → s ≡ sizes_of u m → k ≡ image_len u m n c o z) → k ≡ length (bits_image ws len c)
      unfolding bits_image
      measured_is k e = listing.measured_is len N T F refl c s q.sizes o z eo ez k (λ u m h. e u m h ∙ ap (λ (j : ℕ). image_len u m j c o z) q.number)

pub start-room : (ws : List ℕ) (len : ℕ) → Countable ws len → (c : Bool) (k : ℕ) → length (bits_image ws len c) ≤ k → start_len len (length (ones_of ws len)) ≤ k
unfolding bits_image
start-room ws len ok c k h = let a = listing.start_le len (length (ones_of ws len)) (ones_of ws len) (ones.fits ws len ok) refl c in omega arith

-- ---- filing

module _ (ws : List ℕ) (len : ℕ) (ok : Countable ws len) (n : ℕ) (en : n ≡ length (ones_of ws len)) (w : List ℕ) (fw : Fit w) (long : start_len len (length (ones_of ws len)) ≤ length w) where
  module _ (i : ℕ) (h : i < n) where
    there : i < length (ones_of ws len)
    there = let e = en in omega arith

    pub last_next : (t : ℕ) → t ≡ get_or (ones_of ws len) i 0 → t ≡ last_of (take (suc i) (ones_of ws len))
    last_next t e = e ∙ sym (listing.last_next len (length (ones_of ws len)) (ones_of ws len) (ones.fits ws len ok) refl w fw long i there)

    pub fileable : (x : ℕ) → x ≡ last_of (take i (ones_of ws len)) → (t : ℕ) → t ≡ get_or (ones_of ws len) i 0 → (s : Sizes) → s ≡ sizes_of len (length (ones_of ws len)) → (k : ℕ) → k ≡ length w → Fileable (builder len n i x) t k s
    fileable x ex t et s es k ek = subst⁻¹ (λ (y : ℕ). Fileable (builder len y i x) t k s) en (listing.fileable len (length (ones_of ws len)) (ones_of ws len) (ones.fits ws len ok) refl w fw long i there x ex t et s es k ek)

    pub files : (t : ℕ) → t ≡ get_or (ones_of ws len) i 0 → (x : List ℕ) → x ≡ filed_first ws len w i → filed len n i t x ≡ filed_first ws len w (suc i)
    files t et x ex = ap (λ (y : ℕ). filed len y i t x) en ∙ listing.files len (length (ones_of ws len)) (ones_of ws len) (ones.fits ws len ok) refl w fw long i there t et x ex

  -- ---- the finish

  module _ (c : Bool) (last : ℕ) (el : last ≡ last_of (ones_of ws len)) (x : List ℕ) (ex : x ≡ filed_ones ws len w) where
    numbers_are : builder len n n last ≡ builder len (length (ones_of ws len)) (length (ones_of ws len)) (last_of (ones_of ws len))
    numbers_are = ap₂ (λ (y z : ℕ). builder len y y z) en el

    pub ready : (s : Sizes) → s ≡ sizes_of len (length (ones_of ws len)) → length (bits_image ws len c) ≤ length w → Finishable (builder len n n last) c s x
    unfolding bits_image
    ready s es r = listing.ready len (length (ones_of ws len)) (ones_of ws len) (ones.fits ws len ok) refl w fw long c (builder len n n last) numbers_are x ex s es r

    pub wrote : (y : List ℕ) → y ≡ finished_words (builder len n n last) c x → y ≡ bits_image ws len c ++ drop (length (bits_image ws len c)) w
    unfolding bits_image
    wrote y e = listing.wrote len (length (ones_of ws len)) (ones_of ws len) (ones.fits ws len ok) refl w fw long c (builder len n n last) numbers_are x ex y e

    pub wrote_length : (k : ℕ) → k ≡ length (image_of (builder len n n last) c x) → k ≡ length (bits_image ws len c)
    unfolding bits_image
    wrote_length k e = listing.wrote_length len (length (ones_of ws len)) (ones_of ws len) (ones.fits ws len ok) refl w fw long c (builder len n n last) numbers_are x ex k e
