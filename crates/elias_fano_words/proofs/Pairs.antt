-- The neighbouring ones of words, as marks of a word: a place is marked if it and the next are ones. Assumes nothing.
use mathlib.Core.Path.{◌≡◌, sym, ap, ap₂, ◌∙◌, subst}
use mathlib.Core.List.{List}
use mathlib.Core.Bool.{Bool, false}
use Prim.Native.Nat.{ℕ, suc, ◌+◌, ◌-◌, ◌*◌, ◌/◌, ◌%◌, ◌^◌, ◌≤◌, ◌<◌}
use native.Mathlib.Nat.{le_refl, le_trans, lt_of_not-le, lt_of_le_of_lt, lt_of_lt_of_le, mul-le-mul_right, le_of_lt}
use native.Mathlib.Decide.{dec_lt}
use native.Mathlib.Omega.{arith}
use lib.Bits.{bit_and, bit_or, and_shr, and_mod, and_self, and_le_l, and_le_r}
use lib.ListN.{length, get_or}
use lib.Pow.{pow_mono}
use Rattle.broadword.specs.Bits.{bit, count, ones}
use Rattle.broadword.specs.Fields.{flag, word}
use Rattle.broadword.proofs.Count.{bit_le, bit-mod, bit_shift, bit-above, count_mono}
use Rattle.bit_words.specs.Vector.{bit_at}
use Rattle.bit_words.proofs.Runs.{Fit, bit_at-word, count_word, count_next}
use Rattle.bit_words.proofs.Windows.{two-words, window_or}
use Rattle.elias_fano_words.specs.Checks.{Held, Rises, Each, InOrder}
use Rattle.elias_fano_words.proofs.Bitwise.{count_suc}
use Rattle.elias_fano_words.proofs.Unset.{bit_past}

-- ---- a bit of two words in common

bit-bit_and : (a b i : ℕ) → bit (bit_and a b) i ≡ bit_and (bit a i) (bit b i)
unfolding bit
bit-bit_and a b i = ap (λ (x : ℕ). x % 2) (and_shr a b i) ∙ and_mod (a / 2 ^ i) (b / 2 ^ i) 1

both : (a b : ℕ) → a ≤ 1 → b ≤ 1 → bit_and a b ≡ 1 → (a ≡ 1) × (b ≡ 1)
both a b ha hb e = (let l = and_le_l a b in omega arith, let r = and_le_r a b in omega arith)

joint : (a b : ℕ) → a ≡ 1 → b ≡ 1 → bit_and a b ≡ 1
joint a b p q = ap₂ bit_and p q ∙ and_self 1

-- ---- the marks of a word

-- the places of w that are ones with the place after them, v being the next word
abbrev pub pairs : ℕ → ℕ → ℕ
pairs w v = bit_and w (bit_or (w / 2) ((v * 2 ^ 63) % 2 ^ 64))

module _ (ws : List ℕ) (fit : Fit ws) (i : ℕ) where
  abbrev w : ℕ
  w = get_or ws i 0

  abbrev x : ℕ
  x = pairs (get_or ws i 0) (get_or ws (i + 1) 0)

  mark_lt : (j : ℕ) → bit x j ≡ 1 → j < 64
  mark_lt j e = by (dec_lt j 64)
    where
      by : Dec (j < 64) → j < 64
      by (yes l) = l
      by (no g) =
          let m : x < 2 ^ 64 = lt_of_le_of_lt (and_le_l w (bit_or (w / 2) ((get_or ws (i + 1) 0 * 2 ^ 63) % 2 ^ 64))) (fit i) in
          let z = bit-above x j (lt_of_lt_of_le m (pow_mono {i = 64} (omega (arith, lt_of_not-le g)))) in
          absurd (omega arith)

  after : (j : ℕ) → j < 64 → bit (bit_or (w / 2) ((get_or ws (i + 1) 0 * 2 ^ 63) % 2 ^ 64)) j ≡ bit_at ws (suc (i * 64 + j))
  after j l =
      let N : ℕ = get_or ws (i + 1) 0 * 2 ^ 64 + w in
      let q : i * 64 + (1 + j) ≡ suc (i * 64 + j) = omega arith in
      ap (λ (y : ℕ). bit y j) (window_or 1 (omega arith) (get_or ws (i + 1) 0) w (fit i))
      ∙ bit-mod (N / 2 ^ 1) 64 j l ∙ bit_shift N 1 j ∙ sym (two-words ws i (1 + j) (fit i) (omega arith)) ∙ ap (bit_at ws) q

  mark_pair : (j : ℕ) → bit x j ≡ 1 → (bit_at ws (i * 64 + j) ≡ 1) × (bit_at ws (suc (i * 64 + j)) ≡ 1)
  mark_pair j e =
      let l = mark_lt j e in
      let s : ℕ = bit_or (w / 2) ((get_or ws (i + 1) 0 * 2 ^ 63) % 2 ^ 64) in
      let b = both (bit w j) (bit s j) (bit_le w j) (bit_le s j) (sym (bit-bit_and w s j) ∙ e) in
      (bit_at-word ws i j l ∙ b.0, sym (after j l) ∙ b.1)

  pair_mark : (j : ℕ) → j < 64 → bit_at ws (i * 64 + j) ≡ 1 → bit_at ws (suc (i * 64 + j)) ≡ 1 → bit x j ≡ 1
  pair_mark j l p q =
      let s : ℕ = bit_or (w / 2) ((get_or ws (i + 1) 0 * 2 ^ 63) % 2 ^ 64) in
      bit-bit_and w s j ∙ joint (bit w j) (bit s j) (sym (bit_at-word ws i j l) ∙ p) (after j l ∙ q)

  number : (j : ℕ) → j ≤ 64 → count (bit_at ws) (i * 64 + j) ≡ count (bit_at ws) (i * 64) + ones w j
  number = count_word (bit_at ws) (λ i. get_or ws i 0) (bit_at-word ws) i

-- ---- the order, word by word

-- the low bits rise at the neighbours whose first stands below p
abbrev pub Risen : Bool → ℕ → List ℕ → List ℕ → ℕ → Type 0
Risen strict l high low p = (i : ℕ) → i < p → bit_at high i ≡ 1 → bit_at high (suc i) ≡ 1 → Rises strict l low (count (bit_at high) i)

held_le : (l : ℕ) (low : List ℕ) (j k : ℕ) → j ≤ k → Held l low k → Held l low j
held_le l low j k h d = let m = mul-le-mul_right l h in record { number = lt_of_le_of_lt h d.number; room = le_trans m d.room; few = lt_of_le_of_lt m d.few }

module _ (strict : Bool) (l : ℕ) (high low : List ℕ) (fit : Fit high) (i before v : ℕ) (e : before ≡ count (bit_at high) (i * 64)) (is : v ≡ get_or high (i + 1) 0) where
  abbrev f : ℕ → ℕ
  f = bit_at high

  abbrev marks : ℕ
  marks = pairs (get_or high i 0) v

  same_marks : (j : ℕ) → bit marks j ≡ bit (pairs (get_or high i 0) (get_or high (i + 1) 0)) j
  same_marks j = ap (λ (y : ℕ). bit (pairs (get_or high i 0) y) j) is

  -- the number of the time at the place j of the word
  at : (j : ℕ) → j < 64 → count f (i * 64 + j) ≡ before + ones (get_or high i 0) j
  at j h = number high fit i j (le_of_lt h) ∙ ap (λ (y : ℕ). y + ones (get_or high i 0) j) (sym e)

  -- the low bits of a pair are among those of all ones
  pub pairs_held : Held l low (count f (length high * 64)) → Each marks (λ j. Held l low (before + ones (get_or high i 0) j + 2))
  pairs_held d j b =
      let o = sym (same_marks j) ∙ b in
      let p = mark_pair high fit i j o in
      let q : ℕ = i * 64 + j in
      let c = count_suc f q in
      let g = count_suc f (suc q) in
      let a = at j (mark_lt high fit i j o) in
      let m = count_mono f (suc (suc q)) (length high * 64) (inside (suc q) p.1) in
      held_le l low (before + ones (get_or high i 0) j + 2) (count f (length high * 64)) (omega (arith, p.0, p.1)) d
    where
      inside : (k : ℕ) → f k ≡ 1 → k < length high * 64
      inside k o = by (dec_lt k (length high * 64))
        where
          by : Dec (k < length high * 64) → k < length high * 64
          by (yes h) = h
          by (no g) = let z = bit_past high k (omega (arith, lt_of_not-le g)) in absurd (omega arith)

  -- in order, those of the word rise
  pub word_risen : InOrder strict l high low → Each marks (λ j. Rises strict l low (before + ones (get_or high i 0) j))
  word_risen o j b =
      let m = sym (same_marks j) ∙ b in
      let p = mark_pair high fit i j m in
      subst (λ (k : ℕ). Rises strict l low k) (at j (mark_lt high fit i j m)) (o (i * 64 + j) p.0 p.1)

  -- and they and those before them are those before the next word
  pub risen_more : Risen strict l high low (i * 64) → Each marks (λ j. Rises strict l low (before + ones (get_or high i 0) j)) → Risen strict l high low ((i + 1) * 64)
  risen_more r a k h p q = by (dec_lt k (i * 64))
    where
      by : Dec (k < i * 64) → Rises strict l low (count f k)
      by (yes g) = r k g p q
      by (no g) =
          let j : ℕ = k - i * 64 in
          let s : i * 64 + j ≡ k = omega (arith, lt_of_not-le g) in
          let m : j < 64 = omega arith in
          subst (λ (n : ℕ). Rises strict l low (count f n)) s
          (subst (λ (n : ℕ). Rises strict l low n) (sym (at j m)) (a j (same_marks j ∙ pair_mark high fit i j m (ap f s ∙ p) (ap (λ (n : ℕ). f (suc n)) s ∙ q))))

  -- the ones up to the next word
  pub count_on : (c : ℕ) → c ≡ ones (get_or high i 0) 64 → before + c ≡ count f ((i + 1) * 64)
  count_on c g = ap₂ (λ (a b : ℕ). a + b) e g ∙ sym (count_next f (λ i. get_or high i 0) (bit_at-word high) i)

module _ (strict : Bool) (l : ℕ) (high low : List ℕ) where
  -- at the end
  pub risen_all : Risen strict l high low (length high * 64) → InOrder strict l high low
  risen_all r k p q = by (dec_lt k (length high * 64))
    where
      by : Dec (k < length high * 64) → Rises strict l low (count (bit_at high) k)
      by (yes h) = r k h p q
      by (no g) = let z = bit_past high k (omega (arith, lt_of_not-le g)) in absurd (omega arith)

  -- no low bits
  pub risen_none : strict ≡ false → l ≡ 0 → InOrder strict l high low
  unfolding word
  risen_none e z k p q = subst (λ (n : ℕ). Rises strict n low (count (bit_at high) k)) (sym z) (subst (λ (b : Bool). 0 + flag b ≤ 0) (sym e) (le_refl 0))
