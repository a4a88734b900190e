-- The image of a list in order is accepted and holds that list, and an accepted image is the image of the list that it holds. Assumes nothing.
use mathlib.Core.Path.{◌≡◌, refl, sym, ap, ◌∙◌}
use mathlib.Core.List.{List, [], ◌∷◌, ◌++◌, append_assoc}
use mathlib.Core.Bool.{Bool, true, false, ◌&&◌, cond}
use Prim.Native.Nat.{ℕ, ◌*◌, ◌^◌, ◌≤◌, ◌<◌}
use native.Mathlib.Nat.{le_refl}
use native.Mathlib.Omega.{arith}
use borrow.Author.Tests.{le-leb, lt-ltb, ltb-true, leb-true}
use lib.Dec.{eqb, leb, ltb}
use lib.ListN.{length, drop}
use Rattle.errors.specs.Answer.{refused}
use Rattle.broadword.specs.Fields.{flag}
use Rattle.bit_words.specs.Vector.{words_for, number_words}
use Rattle.darray_positions.specs.Index.{table, index_words}
use Rattle.darray.specs.Queries.{same}
use Rattle.elias_fano_words.specs.Sizes.{low_len}
use Rattle.elias_fano_words.specs.Image.{high_words, low_words, high_positions, low_number, image}
use Rattle.elias_fano_words.specs.Times.{rising, bit_words, times_in}
use Rattle.darray.proofs.Matching.{same_refl, same_true}
use Rattle.elias_fano_words.proofs.Decode.{times_of}
use Rattle.broadword.proofs.Truth.{and_true, true_and}
use Rattle.elias_fano.specs.Accept.{fit, universe, declared, pushed, ranked, times, accepted}
use Rattle.elias_fano.specs.Ask.{Question, ask, asked, query}

-- the settings and the list of a record
pub record Fits (u n : ℕ) (T : List ℕ) : Type 0 where
  pub small : u < 2 ^ 64
  pub some : 0 < n
  pub most : n ≤ 16777216
  pub few : length T ≤ n
  pub rises : rising u 0 T ≡ true

pub fits_of_lem : (u n : ℕ) (T : List ℕ) → fit u n T ≡ true → Fits u n T
unfolding fit
fits_of_lem u n T h =
    let c₃ = leb (length T) n && rising u 0 T in
    let c₂ = leb n 16777216 && c₃ in
    let c₁ = leb 1 n && c₂ in
    let p₀ = and_true (ltb u (2 ^ 64)) c₁ h in
    let p₁ = and_true (leb 1 n) c₂ p₀.1 in
    let p₂ = and_true (leb n 16777216) c₃ p₁.1 in
    let p₃ = and_true (leb (length T) n) (rising u 0 T) p₂.1 in
    record {
      small = ltb-true u (2 ^ 64) p₀.0;
      some = leb-true 1 n p₁.0;
      most = leb-true n 16777216 p₂.0;
      few = leb-true (length T) n p₃.0;
      rises = p₃.1;
    }

pub of_fits : (u n : ℕ) (T : List ℕ) → Fits u n T → fit u n T ≡ true
unfolding fit
of_fits u n T f = simp (lt-ltb u (2 ^ 64) f.small, le-leb 1 n f.some, le-leb n 16777216 f.most, le-leb (length T) n f.few, f.rises)

-- ---- an accepted image

module _ (i : List ℕ) (ok : accepted i ≡ true) where
  pub is_fit : Fits (universe i) (declared i) (times i)
  unfolding accepted
  is_fit = fits_of_lem _ _ _ (and_true (fit (universe i) (declared i) (times i)) (same i (image (universe i) (declared i) (ranked i) (times i))) ok).0

  pub is_image : i ≡ image (universe i) (declared i) (ranked i) (times i)
  unfolding accepted
  is_image = same_true i _ (and_true (fit (universe i) (declared i) (times i)) (same i (image (universe i) (declared i) (ranked i) (times i))) ok).1

-- ---- no words

pub no_times : (i : List ℕ) → length i ≡ 0 → times i ≡ []
unfolding times times_in table
no_times [] e = refl
no_times (x ∷ i) e = absurd (omega arith)

-- ---- the image of a list

pub flag_one : (c : Bool) → eqb (flag c) 1 ≡ c
flag_one true = refl
flag_one false = refl

module _ (u n : ℕ) (c : Bool) (T : List ℕ) where
  -- the words after the header
  abbrev pub indexes : List ℕ
  indexes = index_words (high_positions u n true T) ++ cond c (index_words (high_positions u n false T)) []

  pub image-universe : universe (image u n c T) ≡ u
  unfolding image
  image-universe = refl

  pub image-declared : declared (image u n c T) ≡ n
  unfolding image
  image-declared = refl

  pub image-pushed : pushed (image u n c T) ≡ length T
  unfolding image
  image-pushed = refl

  pub image-ranked : ranked (image u n c T) ≡ c
  unfolding image
  image-ranked = flag_one c

  pub image_body : drop 6 (image u n c T) ≡ bit_words u n (words_for (length T * low_len u n)) T ++ indexes
  unfolding image bit_words low_words
  image_body = sym (append_assoc (high_words u n T) (number_words (words_for (length T * low_len u n)) (low_number (low_len u n) T)) indexes)

  module _ (f : Fits u n T) where
    pub image-times : times (image u n c T) ≡ T
    unfolding times
    image-times =
        (λ x. times_in (image-universe x) (image-declared x) (image-pushed x) (image_body x))
        ∙ times_of u n T f.rises f.few (words_for (length T * low_len u n)) indexes (le_refl (words_for (length T * low_len u n)))

    pub image-accepted : accepted (image u n c T) ≡ true
    unfolding accepted
    image-accepted =
        let I = image u n c T in
        (λ x. fit (image-universe x) (image-declared x) (image-times x) && same I (image (image-universe x) (image-declared x) (image-ranked x) (image-times x)))
        ∙ true_and (fit u n T) (same I I) (of_fits u n T f) (same_refl I)

    -- what it holds is asked
    pub image-asked : (q : Question) → asked (image u n c T) q ≡ ask u n c T q
    image-asked q = λ x. ask (image-universe x) (image-declared x) (image-ranked x) (image-times x) q

    pub image-query : (q : Question) → query (image u n c T) q ≡ ask u n c T q
    unfolding query
    image-query q = ap (λ (b : Bool). cond b (asked (image u n c T) q) (refused 7)) image-accepted ∙ image-asked q
