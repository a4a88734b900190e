-- Where the ones of the high bits of times in order stand: the time with the number k has set the one that k ones stand before, and no
-- other one is set. Assumes nothing.
use mathlib.Core.Path.{◌≡◌, sym, ap, ap₂, ◌∙◌, subst, subst⁻¹}
use mathlib.Core.List.{List, [], ◌∷◌, ◌++◌}
use mathlib.Core.Logic.{⊎_elim}
use mathlib.Core.Bool.{true}
use Prim.Native.Nat.{ℕ, suc, ◌+◌, ◌*◌, ◌/◌, ◌%◌, ◌^◌, ◌≤◌, ◌<◌}
use native.Mathlib.Nat.{le_refl, lt_of_lt_of_le, not-suc-le-zero, eq-or-lt_of_le, le_of_suc-le-suc, le_of_lt, le_dest}
use native.Mathlib.Omega.{arith}
use lib.ListN.{length, get_or, get_or-append}
use lib.Seq.{get_or-append_seam}
use lib.Pow.{pow_pos, pow_mono, shr_mono, high, low}
use Rattle.broadword.specs.Bits.{bit, count}
use Rattle.broadword.proofs.Count.{bit-above, bit-mod, count_same, count_zero, count_add}
use Rattle.darray_positions.proofs.Positions.{below}
use Rattle.elias_fano_words.specs.Image.{high_from}
use Rattle.elias_fano_words.specs.Times.{rising, last_of}
use Rattle.elias_fano_words.proofs.Rising.{rising_induction, last_of_snoc}
use Rattle.elias_fano_words.proofs.Bitwise.{count_suc}
use Rattle.elias_fano_words.proofs.Encode.{length_snoc, high_snoc, high_lt}

-- ---- a one above all others

module _ (h p : ℕ) (l : h < 2 ^ p) where
  sum : h + 2 ^ p ≡ 1 * 2 ^ p + h
  sum = omega arith

  top_below : (j : ℕ) → j < p → bit (h + 2 ^ p) j ≡ bit h j
  top_below j g =
      ap (λ (x : ℕ). bit x j) sum ∙ sym (bit-mod (1 * 2 ^ p + h) p j g) ∙ ap (λ (x : ℕ). bit x j) (low 1 p l)

  top_one : bit (h + 2 ^ p) p ≡ 1
  unfolding bit
  top_one = ap (λ (x : ℕ). x / 2 ^ p % 2) sum ∙ ap (λ (x : ℕ). x % 2) (high 1 p l)

  top_above : (j : ℕ) → p < j → bit (h + 2 ^ p) j ≡ 0
  top_above j g = bit-above (h + 2 ^ p) j (lt_of_lt_of_le (let d : h + 2 ^ p < 2 ^ suc p = omega arith in d) (pow_mono g))

  top_count : (n : ℕ) → n ≤ p → count (bit (h + 2 ^ p)) n ≡ count (bit h) n
  top_count n g = count_same (bit (h + 2 ^ p)) (bit h) n (λ i k. top_below i (lt_of_lt_of_le k g))

  top_all : (n : ℕ) → p < n → count (bit (h + 2 ^ p)) n ≡ count (bit h) p + 1
  top_all n g =
      let f : ℕ → ℕ = bit (h + 2 ^ p) in
      let d = le_dest g in
      let e : n ≡ suc p + d.0 = omega (arith, d.1) in
      let z : count (λ i. f (suc p + i)) d.0 ≡ 0 = count_zero (λ i. f (suc p + i)) d.0 (λ i _. top_above (suc p + i) (omega arith)) in
      ap (count f) e ∙ count_add f (suc p) d.0 ∙ (let a = count_suc f p in let b = top_count p (le_refl p) in let c = top_one in omega arith)

-- ---- the ones of times in order

-- the place of the one of the time with the number k
abbrev pub place_of : ℕ → List ℕ → ℕ → ℕ
place_of l T k = get_or T k 0 / 2 ^ l + k

pub record Ones (l : ℕ) (T : List ℕ) : Type 0 where
  pub one : (k : ℕ) → k < length T → bit (high_from l 0 T) (place_of l T k) ≡ 1
  pub before : (k : ℕ) → k < length T → count (bit (high_from l 0 T)) (place_of l T k) ≡ k
  pub all : (N : ℕ) → last_of T / 2 ^ l + length T ≤ N → count (bit (high_from l 0 T)) N ≡ length T

module _ (l u : ℕ) where
  none : Ones l []
  unfolding high_from
  none = record {
    one = λ k h. absurd (not-suc-le-zero h);
    before = λ k h. absurd (not-suc-le-zero h);
    all = λ N _. count_zero (bit 0) N (λ i _. bit-above 0 i (pow_pos i));
  }

  module _ (T : List ℕ) (t : ℕ) (o : Ones l T) (r : rising u 0 T ≡ true) (a : last_of T ≤ t) where
    abbrev h : ℕ
    h = high_from l 0 T

    abbrev p : ℕ
    p = t / 2 ^ l + length T

    abbrev S : List ℕ
    S = T ++ (t ∷ [])

    end : last_of T / 2 ^ l + length T ≤ p
    end = let g = shr_mono l a in omega arith

    fits : h < 2 ^ p
    fits = lt_of_lt_of_le (high_lt l u T r) (pow_mono end)

    is : high_from l 0 S ≡ h + 2 ^ p
    is = high_snoc l T t

    -- the place of a time, which is an earlier one or the last
    place_old : (k : ℕ) → k < length T → place_of l S k ≡ place_of l T k
    place_old k g = ap (λ (x : ℕ). x / 2 ^ l + k) (get_or-append T (t ∷ []) 0 k g)

    place_new : place_of l S (length T) ≡ p
    place_new = ap (λ (x : ℕ). x / 2 ^ l + length T) (get_or-append_seam T t [] 0)

    old_lt : (k : ℕ) → k < length T → place_of l T k < p
    old_lt k g = below (bit h) (place_of l T k) p (let b = o.before k g in let c = o.all p end in omega arith)

    abbrev Placed : ℕ → Type 0
    Placed k = (bit (high_from l 0 S) (place_of l S k) ≡ 1) × (count (bit (high_from l 0 S)) (place_of l S k) ≡ k)

    at : (k : ℕ) → k < suc (length T) → Placed k
    at k g =
        ⊎_elim
        (λ (e : k ≡ length T). subst⁻¹ Placed e (
          ap₂ bit is place_new ∙ top_one h p fits,
          ap₂ (λ (x n : ℕ). count (bit x) n) is place_new ∙ top_count h p fits p (le_refl p) ∙ o.all p end,
        ))
        (λ (b : k < length T). (
          ap₂ bit is (place_old k b) ∙ top_below h p fits (place_of l T k) (old_lt k b) ∙ o.one k b,
          ap₂ (λ (x n : ℕ). count (bit x) n) is (place_old k b) ∙ top_count h p fits (place_of l T k) (le_of_lt (old_lt k b)) ∙ o.before k b,
        ))
        (eq-or-lt_of_le (le_of_suc-le-suc g))

    more : Ones l (T ++ (t ∷ []))
    more = record {
      one = λ k g. (at k (subst (λ (n : ℕ). k < n) (length_snoc T t) g)).0;
      before = λ k g. (at k (subst (λ (n : ℕ). k < n) (length_snoc T t) g)).1;
      all = λ N g.
          let e : last_of S / 2 ^ l + length S ≡ t / 2 ^ l + suc (length T) = ap₂ (λ (x n : ℕ). x / 2 ^ l + n) (last_of_snoc T t) (length_snoc T t) in
          ap (λ (x : ℕ). count (bit x) N) is ∙ top_all h p fits N (omega arith) ∙ (let c : count (bit h) p ≡ length T = o.all p end in let d = length_snoc T t in omega arith);
    }

  pub ones_of_lem : (T : List ℕ) → rising u 0 T ≡ true → Ones l T
  ones_of_lem = rising_induction u (Ones l) none (λ T t o r a b. more T t o r a)
