-- The words that a start and the readings after it leave: what they hold of a list of times, and that a finish finds just these. Assumes nothing.
use mathlib.Core.Path.{◌≡◌, refl, sym, ap, ap₂, ◌∙◌, subst}
use mathlib.Core.List.{List, [], ◌∷◌, ◌++◌, append_assoc, append-nil}
use mathlib.Core.Bool.{Bool, true}
use Prim.Native.Nat.{ℕ, zero, suc, ◌+◌, ◌-◌, ◌*◌, ◌^◌, ◌≤◌, ◌<◌, zero-le}
use native.Mathlib.Nat.{le_refl, mul-le-mul}
use native.Mathlib.Omega.{arith}
use borrow.Author.Tests.{lt-ltb, eq-eqb}
use lib.Dec.{eqb}
use lib.ListN.{length, drop, replicate, length-append, length-drop, replicate-append-replicate}
use lib.Seq.{take_at}
use Rattle.broadword.specs.Fields.{word}
use Rattle.broadword.proofs.Truth.{true_and}
use Rattle.bit_words.specs.Vector.{words_for, number_words}
use Rattle.bit_words.proofs.Overwrite.{length-number_words}
use Rattle.bit_words.proofs.Runs.{Fit}
use Rattle.bit_words.proofs.Stores.{fit-drop}
use Rattle.elias_fano_words.specs.Sizes.{low_len, high_len, start_len}
use Rattle.elias_fano_words.specs.Image.{high_from, high_words, low_number, image}
use Rattle.elias_fano_words.specs.Times.{last_of, bit_words, times_in, holds}
use Rattle.elias_fano_words.proofs.Decode.{times_of}
use Rattle.elias_fano_words.proofs.Holds.{holds-words}
use Rattle.elias_fano_words.proofs.Rising.{rising_none, rising_snoc, rising_lt, last_of_get_d}
use Rattle.elias_fano.specs.declared.builder.Builder.{Builder}
use Rattle.elias_fano.specs.Made.{builder}
use Rattle.elias_fano.specs.Steps.{sound, filed, held_words, held_times, intact, image_of}
use Rattle.elias_fano.proofs.Cases as cases
use Rattle.elias_fano.proofs.Filing.{file_next}
use Rattle.elias_fano.proofs.Images.{Fits}

-- ---- words of zeros

zeros : (k : ℕ) → number_words k 0 ≡ replicate k 0
unfolding number_words
zeros zero = refl
zeros (suc k) = ap (λ (r : List ℕ). 0 ∷ r) (zeros k)

pub fit-zeros : (k : ℕ) → Fit (replicate k 0)
fit-zeros zero i = omega arith
fit-zeros (suc k) zero = omega arith
fit-zeros (suc k) (suc i) = fit-zeros k i

-- settings in their limits, and words for their start
pub record Room (u n : ℕ) (lent : List ℕ) : Type 0 where
  pub small : u < 2 ^ 64
  pub some : n ≡ 0 → ⊥
  pub most : n ≤ 16777216
  pub long : start_len u n ≤ length lent
  pub words : Fit lent

module _ (u n : ℕ) (lent : List ℕ) (begun : Room u n lent) where
  abbrev k : ℕ
  k = words_for (n * low_len u n)

  abbrev pub B : List ℕ → Builder
  B T = builder u n (length T) (last_of T)

  abbrev pub W : List ℕ → List ℕ
  W T = replicate 6 0 ++ (bit_words u n k T ++ drop (start_len u n) lent)

  positive : 0 < n
  positive = let h = begun.some in omega arith

  pub fits_none : Fits u n []
  fits_none = record { small = begun.small; some = positive; most = begun.most; few = zero-le {n = n}; rises = rising_none u 0 }

  pub fits_more : (T : List ℕ) (t : ℕ) → Fits u n T → last_of T ≤ t → t < u → length T < n → Fits u n (T ++ (t ∷ []))
  fits_more T t f a b c = record {
    small = f.small;
    some = f.some;
    most = f.most;
    few = simp length-append (omega arith);
    rises = rising_snoc u T t f.rises a b;
  }

  -- ---- the words

  pub length_bits : (T : List ℕ) → length (bit_words u n k T) ≡ words_for (high_len u n) + k
  unfolding bit_words high_words
  length_bits T =
      length-append (high_words u n T) (number_words k (low_number (low_len u n) T))
      ∙ ap₂ (λ (a b : ℕ). a + b) (length-number_words (words_for (high_len u n)) (high_from (low_len u n) 0 T)) (length-number_words k (low_number (low_len u n) T))

  pub start_is : start_len u n ≡ 6 + (words_for (high_len u n) + k)
  unfolding start_len
  start_is = omega arith

  pub length-words : (T : List ℕ) → length (W T) ≡ length lent
  length-words T =
      let b = length_bits T in
      let s = start_is in
      let l = begun.long in
      let Z : List ℕ = replicate 6 0 in
      length-append Z (bit_words u n k T ++ drop (start_len u n) lent)
      ∙ ap (λ (y : ℕ). 6 + y) (length-append (bit_words u n k T) (drop (start_len u n) lent) ∙ ap (λ (y : ℕ). length (bit_words u n k T) + y) (length-drop (start_len u n) lent))
      ∙ omega arith

  no_bits : bit_words u n k [] ≡ replicate (words_for (high_len u n) + k) 0
  unfolding bit_words high_words high_from low_number word
  no_bits = ap₂ (λ (a b : List ℕ). a ++ b) (zeros (words_for (high_len u n))) (zeros k) ∙ replicate-append-replicate (words_for (high_len u n)) k 0

  -- the words that a start leaves
  pub start-words : replicate (start_len u n) 0 ++ drop (start_len u n) lent ≡ W []
  start-words =
      let D : List ℕ = drop (start_len u n) lent in
      ap (λ (y : ℕ). replicate y 0 ++ D) start_is
      ∙ ap (λ (r : List ℕ). r ++ D) (sym (replicate-append-replicate 6 (words_for (high_len u n) + k) 0))
      ∙ append_assoc (replicate 6 0) (replicate (words_for (high_len u n) + k) 0) D
      ∙ ap (λ (r : List ℕ). replicate 6 0 ++ (r ++ D)) (sym no_bits)

  -- ---- a reading

  last_lt : (T : List ℕ) → Fits u n T → 0 < length T → last_of T < u
  last_lt T f h = subst (λ (x : ℕ). x < u) (sym (last_of_get_d T h)) (rising_lt u T (length T - 1) f.rises (omega arith))

  pub numbers-sound : (T : List ℕ) → Fits u n T → sound (B T) ≡ true
  numbers-sound [] f = cases.none_pushed (B []) begun.some f.most f.few refl ∙ eq-eqb 0 0 refl
  numbers-sound (t ∷ T) f =
      cases.some_pushed (B (t ∷ T)) begun.some f.most f.few (λ (e : suc (length T) ≡ 0). omega arith) ∙ lt-ltb _ _ (last_lt (t ∷ T) f (omega arith))

  pub long : (T : List ℕ) → start_len u n ≤ length (W T)
  long T = subst (λ (y : ℕ). start_len u n ≤ y) (sym (length-words T)) begun.long

  pub file : (T : List ℕ) (t : ℕ) → Fits u n T → last_of T ≤ t → t < u → length T < n → filed u n (length T) t (W T) ≡ W (T ++ (t ∷ []))
  file T t f a b c = file_next u n T t f.rises a b c (replicate 6 0) (drop (start_len u n) lent) refl (fit-zeros 6) (fit-drop (start_len u n) lent begun.words)

  -- ---- what a finish finds

  pub held_words_lem : (T : List ℕ) → held_words (B T) (W T) ≡ bit_words u n k T
  held_words_lem T = take_at (bit_words u n k T) (drop (start_len u n) lent) (start_len u n - 6) (length_bits T ∙ (let s = start_is in omega arith))

  module _ (T : List ℕ) (f : Fits u n T) where
    low_room : words_for (length T * low_len u n) ≤ k
    low_room = let g : length T * low_len u n ≤ n * low_len u n = mul-le-mul f.few (le_refl (low_len u n)) in omega arith

    pub held_times_lem : held_times (B T) (W T) ≡ T
    unfolding held_times
    held_times_lem =
        ap (times_in u n (length T)) (held_words_lem T ∙ sym (append-nil (bit_words u n k T)))
        ∙ times_of u n T f.rises f.few k [] low_room

    pub held_intact : intact (B T) (W T) ≡ true
    unfolding intact
    held_intact =
        true_and (holds u n (length T) (held_words (B T) (W T))) (eqb (last_of (held_times (B T) (W T))) (last_of T))
        (ap (holds u n (length T)) (held_words_lem T) ∙ holds-words u n T f.rises f.few k low_room)
        (eq-eqb (last_of (held_times (B T) (W T))) (last_of T) (ap last_of held_times_lem))

    pub image_is : (c : Bool) → image_of (B T) c (W T) ≡ image u n c T
    unfolding image_of
    image_is c = ap (image u n c) held_times_lem
