-- The high and the low bits of times in order, as numbers: what one more time adds to them, and how many bits they have. Assumes nothing.
use mathlib.Core.Path.{◌≡◌, refl, sym, ap, ap₂, ◌∙◌, subst⁻¹}
use mathlib.Core.List.{List, [], ◌∷◌, ◌++◌}
use mathlib.Core.Bool.{true}
use Prim.Native.Nat.{ℕ, zero, suc, ◌+◌, ◌*◌, ◌/◌, ◌%◌, ◌^◌, ◌≤◌, ◌<◌}
use native.Mathlib.Nat.{add-zero, zero-add, suc-mul, mod-lt}
use native.Mathlib.Numerals.{add-one}
use native.Mathlib.Omega.{arith}
use lib.ListN.{length, get_or, length-append, get_or-append}
use lib.Seq.{get_or-append_seam}
use lib.Pow.{pow_pos, pow-add, pow_mono, shr_mono}
use Rattle.broadword.specs.Fields.{word}
use Rattle.broadword.proofs.Fields.{word_same, word_lt}
use Rattle.elias_fano_words.specs.Image.{high_from, low_number}
use Rattle.elias_fano_words.specs.Times.{rising, last_of}
use Rattle.elias_fano_words.proofs.Rising.{rising_induction, last_of_snoc}

pub length_snoc : (T : List ℕ) (t : ℕ) → length (T ++ (t ∷ [])) ≡ suc (length T)
length_snoc T t = length-append T (t ∷ []) ∙ add-one (length T)

-- ---- the highest field of a word apart

pub word_snoc : (k : ℕ) (f : ℕ → ℕ) (n : ℕ) → word k f (suc n) ≡ word k f n + f n * 2 ^ (n * k)
unfolding word
word_snoc k f zero = let e : (0 * 2 ^ k) + f 0 ≡ 0 + f 0 * 2 ^ 0 = omega arith in e ∙ ap (λ (y : ℕ). 0 + f 0 * 2 ^ y) (let d : 0 ≡ 0 * k = omega arith in d)
word_snoc k f (suc n) =
    let g : ℕ → ℕ = λ i. f (suc i) in
    let w : ℕ = word k g n in
    let P : ℕ = 2 ^ (n * k) in
    let Q : ℕ = 2 ^ k in
    let p : 2 ^ (suc n * k) ≡ P * Q = ap (λ (e : ℕ). 2 ^ e) (suc-mul n k) ∙ pow-add 2 (n * k) k in
    let d : (x : ℕ) → (w + x * P) * Q + f 0 ≡ (w * Q + f 0) + x * (P * Q) = λ x. omega arith in
    ap (λ (y : ℕ). y * Q + f 0) (word_snoc k g n) ∙ d (f (suc n)) ∙ ap (λ (y : ℕ). (w * Q + f 0) + f (suc n) * y) (sym p)

-- ---- the high bits

module _ (l : ℕ) where
  high_more : (k : ℕ) (T : List ℕ) (t : ℕ) → high_from l k (T ++ (t ∷ [])) ≡ high_from l k T + 2 ^ (t / 2 ^ l + (k + length T))
  unfolding high_from
  high_more k [] t = add-zero (2 ^ (t / 2 ^ l + k)) ∙ ap (λ (e : ℕ). 2 ^ (t / 2 ^ l + e)) (sym (add-zero k)) ∙ sym (zero-add (2 ^ (t / 2 ^ l + (k + 0))))
  high_more k (s ∷ T) t =
      let e : suc k + length T ≡ k + suc (length T) = omega arith in
      let a : high_from l (suc k) (T ++ (t ∷ [])) ≡ high_from l (suc k) T + 2 ^ (t / 2 ^ l + (k + suc (length T))) = high_more (suc k) T t ∙ ap (λ (i : ℕ). high_from l (suc k) T + 2 ^ (t / 2 ^ l + i)) e in
      omega arith

  pub high_snoc : (T : List ℕ) (t : ℕ) → high_from l 0 (T ++ (t ∷ [])) ≡ high_from l 0 T + 2 ^ (t / 2 ^ l + length T)
  high_snoc T t = high_more 0 T t ∙ ap (λ (e : ℕ). high_from l 0 T + 2 ^ (t / 2 ^ l + e)) (zero-add (length T))

  high_none : high_from l 0 [] ≡ 0
  unfolding high_from
  high_none = refl

  -- they end below the place after the last time's
  pub high_lt : (u : ℕ) (T : List ℕ) → rising u 0 T ≡ true → high_from l 0 T < 2 ^ (last_of T / 2 ^ l + length T)
  high_lt u =
      rising_induction u (λ T. high_from l 0 T < 2 ^ (last_of T / 2 ^ l + length T))
      (subst⁻¹ (λ (y : ℕ). y < 2 ^ (0 / 2 ^ l + 0)) high_none (pow_pos (0 / 2 ^ l + 0)))
      (λ T t h r a b.
      let p : ℕ = t / 2 ^ l + length T in
      let m : 2 ^ (last_of T / 2 ^ l + length T) ≤ 2 ^ p = pow_mono (let g = shr_mono l a in omega arith) in
      let s : high_from l 0 (T ++ (t ∷ [])) ≡ high_from l 0 T + 2 ^ p = high_snoc T t in
      let e : last_of (T ++ (t ∷ [])) / 2 ^ l + length (T ++ (t ∷ [])) ≡ suc p = ap₂ (λ (x n : ℕ). x / 2 ^ l + n) (last_of_snoc T t) (length_snoc T t) ∙ (let d : (x y : ℕ) → x + suc y ≡ suc (x + y) = λ x y. omega arith in d (t / 2 ^ l) (length T)) in
      subst⁻¹ (λ (y : ℕ). high_from l 0 (T ++ (t ∷ [])) < 2 ^ y) e (omega arith))

  -- ---- the low bits

  pub low_snoc : (T : List ℕ) (t : ℕ) → low_number l (T ++ (t ∷ [])) ≡ low_number l T + t % 2 ^ l * 2 ^ (length T * l)
  unfolding low_number
  low_snoc T t =
      let f : ℕ → ℕ = λ k. get_or (T ++ (t ∷ [])) k 0 % 2 ^ l in
      ap (word l f) (length_snoc T t) ∙ word_snoc l f (length T)
      ∙ ap₂ (λ (x y : ℕ). x + y % 2 ^ l * 2 ^ (length T * l))
      (word_same l f (λ k. get_or T k 0 % 2 ^ l) (length T) (λ i h. ap (λ (x : ℕ). x % 2 ^ l) (get_or-append T (t ∷ []) 0 i h)))
      (get_or-append_seam T t [] 0)

  pub low_lt : (T : List ℕ) → low_number l T < 2 ^ (length T * l)
  unfolding low_number
  low_lt T = word_lt l (λ k. get_or T k 0 % 2 ^ l) (length T) (λ i _. mod-lt (get_or T i 0) (pow_pos l))
