-- The marked places of a word, of which the lowest is taken off again and again. Assumes nothing.
use mathlib.Core.Path.{◌≡◌, refl, sym, ap, ◌∙◌, subst}
use mathlib.Core.List.{List}
use mathlib.Core.Bool.{Bool, true, false, not}
use mathlib.Core.Logic.{◌⊎◌, inl, inr, ⊎_elim}
use Prim.Native.Nat.{ℕ, zero, suc, ◌+◌, ◌-◌, ◌*◌, ◌/◌, ◌%◌, ◌^◌, ◌≤◌, ◌<◌}
use native.Mathlib.Nat.{pos_of_ne-zero, lt_of_not-le, mul-div_cancel, le_of_lt, not-le_of_lt}
use native.Mathlib.Decide.{dec_lt, ℕ_discrete}
use native.Mathlib.Omega.{arith}
use borrow.Author.Tests.{leb-true, leb-false, not-true, not-false}
use lib.Bits.{bit_and, and_mask}
use lib.Dec.{leb}
use lib.Pow.{pow_pos}
use Rattle.broadword.specs.Bits.{bit, ones}
use Rattle.broadword.specs.Fields.{flag}
use Rattle.broadword.proofs.Count.{bit_half, bit_low, bit_shift}
use Rattle.broadword.proofs.Lowest.{odd_times, pow_le, short, bit-one, bit_below, lowest_one}
use Rattle.bit_words.proofs.Runs.{bit_under}
use Rattle.darray_positions.proofs.Counts.{ones_low}
use Rattle.elias_fano_words.specs.Checks.{Held, Rises, Each, low_bits}
use Rattle.elias_fano_words.proofs.Unset.{bit_zero}

-- ---- the lowest mark

-- an odd number and the even one below it differ in the lowest bit alone
odd_even : (m d : ℕ) → (d ≡ 0 → ⊥) → bit (m * 2) d ≡ bit (m * 2 + 1) d
odd_even m zero z = absurd (z refl)
odd_even m (suc d) z =
    let p : m * 2 / 2 ≡ (m * 2 + 1) / 2 = omega arith in
    bit_half (m * 2) d ∙ ap (λ (y : ℕ). bit y d) p ∙ sym (bit_half (m * 2 + 1) d)

even_low : (m : ℕ) → bit (m * 2) 0 ≡ 0
even_low m = bit_low (m * 2) ∙ (let e : m * 2 % 2 ≡ 0 = omega arith in e)

-- x without its lowest one, which stands at t
module _ (x t m : ℕ) (e : x ≡ (m * 2 + 1) * 2 ^ t) where
  without : x - 2 ^ t ≡ m * 2 * 2 ^ t
  without = let d : (P : ℕ) → (m * 2 + 1) * P ≡ m * 2 * P + P = λ P. omega arith in let f = e ∙ d (2 ^ t) in omega arith

  at_least : (d : ℕ) → bit (x - 2 ^ t) (t + d) ≡ bit (m * 2) d
  at_least d = ap (λ (y : ℕ). bit y (t + d)) without ∙ sym (bit_shift (m * 2 * 2 ^ t) t d) ∙ ap (λ (y : ℕ). bit y d) (mul-div_cancel (m * 2) (pow_pos t))

  at_least-whole : (d : ℕ) → bit x (t + d) ≡ bit (m * 2 + 1) d
  at_least-whole d = ap (λ (y : ℕ). bit y (t + d)) e ∙ sym (bit_shift ((m * 2 + 1) * 2 ^ t) t d) ∙ ap (λ (y : ℕ). bit y d) (mul-div_cancel (m * 2 + 1) (pow_pos t))

  -- it is gone, and every other stays
  gone : bit (x - 2 ^ t) t ≡ 0
  gone = let q : t ≡ t + 0 = omega arith in ap (bit (x - 2 ^ t)) q ∙ at_least 0 ∙ even_low m

  stays : (j : ℕ) → (j ≡ t → ⊥) → bit (x - 2 ^ t) j ≡ bit x j
  stays j n = by (dec_lt j t)
    where
      by : Dec (j < t) → bit (x - 2 ^ t) j ≡ bit x j
      by (yes l) = ap (λ (y : ℕ). bit y j) without ∙ bit_under (m * 2) t j l ∙ sym (bit_below x t m e j l)
      by (no g) =
          let d : ℕ = j - t in
          let q : j ≡ t + d = omega (arith, lt_of_not-le g) in
          ap (bit (x - 2 ^ t)) q ∙ at_least d ∙ odd_even m d (λ z. n (omega arith)) ∙ sym (at_least-whole d) ∙ ap (bit x) (sym q)

-- the lowest one of x as the program takes it
abbrev pub lowest : ℕ → ℕ
lowest x = bit_and x (2 ^ 64 - 1 - x + 1)

-- t is its place
record Mark (x t : ℕ) : Type 0 where
  within : t < 64
  is : lowest x ≡ 2 ^ t
  one : bit x t ≡ 1
  small : 2 ^ t ≤ x
  rest : (j : ℕ) → bit (x - 2 ^ t) j ≡ 1 → bit x j ≡ 1
  others : (j : ℕ) → bit x j ≡ 1 → (j ≡ t) ⊎ (bit (x - 2 ^ t) j ≡ 1)

module _ (x : ℕ) (some : x ≡ 0 → ⊥) (fits : x < 2 ^ 64) where
  marked : (t : ℕ) × Mark x t
  marked =
      let o = odd_times x (pos_of_ne-zero some) in
      let t : ℕ = o.0 in
      let m : ℕ = o.1 in
      let e = o.2 in
      let l : t < 64 = short x t m e 64 fits in
      let n : 2 ^ 64 - 1 - x + 1 ≡ 2 ^ 64 - x = omega arith in (
        t,
        record {
          within = l;
          is = ap (bit_and x) n ∙ lowest_one x t m e (63 - t) (omega arith) fits;
          one = bit-one x t m e;
          small = pow_le x t m e;
          rest = λ j b. by t m e j b (ℕ_discrete j t);
          others = λ j b. other t m e j b (ℕ_discrete j t);
        },
      )
    where
      by : (t m : ℕ) (e : x ≡ (m * 2 + 1) * 2 ^ t) (j : ℕ) → bit (x - 2 ^ t) j ≡ 1 → Dec (j ≡ t) → bit x j ≡ 1
      by t m e j b (yes q) = ap (bit x) q ∙ bit-one x t m e
      by t m e j b (no n) = sym (stays x t m e j n) ∙ b

      other : (t m : ℕ) (e : x ≡ (m * 2 + 1) * 2 ^ t) (j : ℕ) → bit x j ≡ 1 → Dec (j ≡ t) → (j ≡ t) ⊎ (bit (x - 2 ^ t) j ≡ 1)
      other t m e j b (yes q) = inl q
      other t m e j b (no n) = inr (stays x t m e j n ∙ b)

  -- its place
  abbrev t : ℕ
  t = marked.0

  pub lowest_pos : 1 ≤ lowest x
  lowest_pos = let p = pow_pos t in omega (arith, marked.1.is)

  pub lowest_le : lowest x ≤ x
  lowest_le = omega (arith, marked.1.is, marked.1.small)

  pub left_less : x - lowest x < x
  left_less = omega (arith, lowest_pos, lowest_le)

  -- what holds of every mark holds of those that are left
  pub each_left : (P : ℕ → Type 0) → Each x P → Each (x - lowest x) P
  each_left P a j b = a j (marked.1.rest j (ap (λ (y : ℕ). bit (x - y) j) (sym marked.1.is) ∙ b))

  each_all : (P : ℕ → Type 0) → P t → Each (x - lowest x) P → Each x P
  each_all P p a j b =
      ⊎_elim (λ (q : j ≡ t). subst P (sym q) p) (λ r. a j (ap (λ (y : ℕ). bit (x - y) j) marked.1.is ∙ r)) (marked.1.others j b)

  -- ---- the low bits at the lowest mark of a word w, with `before` ones before the word; c of its own stand below the mark

  module _ (strict : Bool) (low : List ℕ) (l w before c : ℕ) (e : c ≡ ones (bit_and w (lowest x - 1)) 64) where
    below : c ≡ ones w t
    below = e ∙ ap (λ (y : ℕ). ones (bit_and w (y - 1)) 64) marked.1.is ∙ ap (λ (y : ℕ). ones y 64) (and_mask w t) ∙ ones_low w t (le_of_lt marked.1.within)

    number : before + ones w t ≡ before + c
    number = ap (λ (y : ℕ). before + y) (sym below)

    pub mark_held : Each x (λ j. Held l low (before + ones w j + 2)) → Held l low (before + c + 2)
    mark_held a = subst (λ (y : ℕ). Held l low (y + 2)) number (a t marked.1.one)

    module _ (r : Bool) (is : r ≡ leb (low_bits l low (before + c) + flag strict) (low_bits l low (suc (before + c)))) where
      pub mark_falls : not r ≡ true → Each x (λ j. Rises strict l low (before + ones w j)) → ⊥
      mark_falls f a =
          not-le_of_lt (leb-false (low_bits l low (before + c) + flag strict) (low_bits l low (suc (before + c))) (sym is ∙ not-true r f))
          (subst (λ (y : ℕ). Rises strict l low y) number (a t marked.1.one))

      pub mark_rises : not r ≡ false → Each (x - lowest x) (λ j. Rises strict l low (before + ones w j)) → Each x (λ j. Rises strict l low (before + ones w j))
      mark_rises f = each_all (λ j. Rises strict l low (before + ones w j)) (subst (λ (y : ℕ). Rises strict l low y) (sym number) (leb-true (low_bits l low (before + c) + flag strict) (low_bits l low (suc (before + c))) (sym is ∙ not-false r f)))

-- 0 has no mark
pub no_mark : (x j : ℕ) → x ≡ 0 → bit x j ≡ 1 → ⊥
no_mark x j e b = let z = bit_zero x j e in omega arith
