-- One more time is filed: words that hold the bits of some times then hold those of one more. Assumes nothing.
use mathlib.Core.Path.{◌≡◌, sym, ap, ap₂, ◌∙◌, subst}
use mathlib.Core.List.{List, [], ◌∷◌, ◌++◌, append_assoc}
use mathlib.Core.Bool.{true}
use Prim.Native.Nat.{ℕ, zero, suc, ◌+◌, ◌*◌, ◌/◌, ◌%◌, ◌^◌, ◌≤◌, ◌<◌}
use native.Mathlib.Nat.{lt_of_lt_of_le, le_of_lt, mod-lt, mul-le-mul, le_refl, one-mul}
use native.Mathlib.Omega.{arith}
use lib.ListN.{length, length-append}
use lib.Pow.{pow_pos, pow_mono, shr_mono}
use Rattle.bit_words.specs.Vector.{words_for, number_words, overwrite}
use Rattle.bit_words.proofs.Overwrite.{length-number_words, fit-number_words, over_right, over-left, over-number}
use Rattle.bit_words.proofs.Runs.{Fit}
use Rattle.elias_fano_words.specs.Sizes.{low_len, high_len}
use Rattle.elias_fano_words.specs.Image.{high_from, low_number, high_words}
use Rattle.elias_fano_words.specs.Times.{rising, last_of, bit_words}
use Rattle.elias_fano_words.proofs.Encode as encode
use Rattle.elias_fano.specs.Steps.{filed}

pub fit_append : (A B : List ℕ) → Fit A → Fit B → Fit (A ++ B)
fit_append [] B a b i = b i
fit_append (x ∷ A) B a b zero = a 0
fit_append (x ∷ A) B a b (suc i) = fit_append A B (λ j. a (suc j)) b i

module _ (u n : ℕ) where
  abbrev l : ℕ
  l = low_len u n

  abbrev hw : ℕ
  hw = words_for (high_len u n)

  abbrev lw : ℕ
  lw = words_for (n * low_len u n)

  -- the place of the high bit of a time below u whose number is below n
  pub place_lt : (t m : ℕ) → t < u → m < n → t / 2 ^ l + m < high_len u n
  unfolding high_len
  place_lt t m h k = let g = shr_mono l (le_of_lt h) in omega arith

  -- the low bits of a time whose number is below n
  pub low_room : (m : ℕ) → m < n → m * l + l ≤ n * l
  low_room m h = let e : m * l + l ≡ suc m * l = omega arith in subst (λ (y : ℕ). y ≤ n * l) (sym e) (mul-le-mul h (le_refl l))

  module _ (T : List ℕ) (t : ℕ) (up : rising u 0 T ≡ true) (after : last_of T ≤ t) (below : t < u) (few : length T < n) where
    abbrev m : ℕ
    m = length T

    abbrev p : ℕ
    p = t / 2 ^ l + m

    high_fits : p + 1 ≤ 64 * hw
    high_fits = let h = place_lt t m below few in omega arith

    -- the high words
    high_next : overwrite (high_words u n T) p 1 1 ≡ high_words u n (T ++ (t ∷ []))
    unfolding high_words
    high_next =
        let v : ℕ = high_from l 0 T in
        let a : v < 2 ^ p = lt_of_lt_of_le (encode.high_lt l u T up) (pow_mono (let g = shr_mono l after in omega arith)) in
        let b : v < 2 ^ (hw * 64) = lt_of_lt_of_le a (pow_mono (let g = high_fits in omega arith)) in
        over-number hw v p 1 1 a b ∙ ap (number_words hw) (ap (λ (y : ℕ). v + y) (one-mul (2 ^ p)) ∙ sym (encode.high_snoc l T t))

    low_fits : m * l + l ≤ 64 * lw
    low_fits = let r = low_room m few in omega arith

    -- the low words
    low_next : overwrite (number_words lw (low_number l T)) (m * l) l (t % 2 ^ l) ≡ number_words lw (low_number l (T ++ (t ∷ [])))
    low_next =
        let v : ℕ = low_number l T in
        let a : v < 2 ^ (m * l) = encode.low_lt l T in
        let b : v < 2 ^ (lw * 64) = lt_of_lt_of_le a (pow_mono (let g = low_fits in omega arith)) in
        over-number lw v (m * l) l (t % 2 ^ l) a b ∙ ap (number_words lw) (sym (encode.low_snoc l T t))

    length_high : (S : List ℕ) → length (high_words u n S) ≡ hw
    unfolding high_words
    length_high S = length-number_words hw (high_from l 0 S)

    fit_high : (S : List ℕ) → Fit (high_words u n S)
    unfolding high_words
    fit_high S = fit-number_words hw (high_from l 0 S)

    -- some words stand before them, and some after
    pub file_next : (A D : List ℕ) → length A ≡ 6 → Fit A → Fit D → filed u n m t (A ++ (bit_words u n lw T ++ D)) ≡ A ++ (bit_words u n lw (T ++ (t ∷ [])) ++ D)
    unfolding filed bit_words
    file_next A D six fa fd =
        let h : List ℕ = high_words u n T in
        let h' : List ℕ = high_words u n (T ++ (t ∷ [])) in
        let L : List ℕ = number_words lw (low_number l T) in
        let L' : List ℕ = number_words lw (low_number l (T ++ (t ∷ []))) in
        let x : ℕ = t % 2 ^ l in
        let f_l : Fit (L ++ D) = fit_append L D (fit-number_words lw (low_number l T)) fd in
        let lh : length h ≡ hw = length_high T in
        let lh' : length (A ++ h') ≡ 6 + hw = length-append A h' ∙ ap₂ (λ (a b : ℕ). a + b) six (length_high (T ++ (t ∷ []))) in
        let one : overwrite (A ++ ((h ++ L) ++ D)) (64 * 6 + p) 1 1 ≡ A ++ (h' ++ (L ++ D)) =
        ap₂ (λ (k : ℕ) (r : List ℕ). overwrite (A ++ r) (64 * k + p) 1 1) (sym six) (append_assoc h L D)
        ∙ over_right A (h ++ (L ++ D)) p 1 1 fa
        ∙ ap (λ (r : List ℕ). A ++ r) (over-left h (L ++ D) p 1 1 (fit_high T) f_l (subst (λ (k : ℕ). p + 1 ≤ 64 * k) (sym lh) high_fits) (omega arith) ∙ ap (λ (r : List ℕ). r ++ (L ++ D)) high_next) in
        let two : overwrite (A ++ (h' ++ (L ++ D))) (64 * (6 + hw) + m * l) l x ≡ A ++ ((h' ++ L') ++ D) =
        ap₂ (λ (k : ℕ) (r : List ℕ). overwrite r (64 * k + m * l) l x) (sym lh') (sym (append_assoc A h' (L ++ D)))
        ∙ over_right (A ++ h') (L ++ D) (m * l) l x (fit_append A h' fa (fit_high (T ++ (t ∷ []))))
        ∙ ap (λ (r : List ℕ). (A ++ h') ++ r) (over-left L D (m * l) l x (fit-number_words lw (low_number l T)) fd (subst (λ (k : ℕ). m * l + l ≤ 64 * k) (sym (length-number_words lw (low_number l T))) low_fits) (mod-lt t (pow_pos l)) ∙ ap (λ (r : List ℕ). r ++ D) low_next)
        ∙ append_assoc A h' (L' ++ D) ∙ ap (λ (r : List ℕ). A ++ r) (sym (append_assoc h' L' D)) in
        ap (λ (r : List ℕ). overwrite r (64 * (6 + hw) + m * l) l x) one ∙ two
