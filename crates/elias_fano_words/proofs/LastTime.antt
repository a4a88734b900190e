-- The last one of the high words, and the time that it stands for. Assumes nothing.
use Rattle.std.specs.Prelude.{Some, None, Option, IsSome}
use Rattle.std.specs.Bool.{then_some}
use mathlib.Core.Path.{◌≡◌, refl, sym, ap, ap₂, ◌∙◌, subst, subst⁻¹}
use mathlib.Core.List.{List}
use mathlib.Core.Bool.{Bool, true, false, cond}
use Prim.Native.Nat.{ℕ, suc, ◌+◌, ◌-◌, ◌*◌, ◌/◌, ◌%◌, ◌^◌, ◌≤◌, ◌<◌}
use native.Mathlib.Nat.{lt_of_not-le, lt_of_le_of_lt, mul-le-mul_right, mod-lt, mod-eq_of_lt}
use native.Mathlib.Decide.{dec_lt}
use native.Mathlib.Omega.{arith}
use borrow.Author.Tests.{le-ltb}
use lib.Arith.{digits_lt}
use lib.Dec.{ltb}
use lib.ListN.{length, get_or}
use lib.Pow.{pow_pos, pow-add, shr_lt, split}
use Rattle.broadword.specs.Bits.{bit, count}
use Rattle.broadword.specs.Places.{last}
use Rattle.broadword.proofs.Count.{bit_le}
use Rattle.broadword.proofs.Find.{last_is, last_nothing}
use Rattle.bit_words.specs.Vector.{bit_at}
use Rattle.bit_words.specs.Inner.{Ending}
use Rattle.bit_words.proofs.Last.{not_one, no_bits}
use Rattle.bit_words.proofs.Runs.{Fit, bit_at_le, bit_at-word, rank_le}
use Rattle.elias_fano_words.specs.Checks.{low_bits, Held, LastOne, time_at}
use Rattle.elias_fano_words.proofs.Holds.{low_bits_lt}
use Rattle.elias_fano_words.proofs.Unset as unset

-- ---- the last one, in the last word that is not 0

module _ (ws : List ℕ) (fit : Fit ws) (some : (p : ℕ) × LastOne ws p) (used : ℕ) (end : Ending ws (length ws) used) where
  pub used_pos : 1 ≤ used
  used_pos = by (dec_lt 0 used)
    where
      by : Dec (0 < used) → 1 ≤ used
      by (yes l) = l
      by (no g) = let z = unset.clear-past ws fit 0 used end (omega (arith, lt_of_not-le g)) some.0 (omega arith) in absurd (omega (arith, some.1.one))

  abbrev i : ℕ
  i = used - 1

  pub last_in : (b : ℕ) → Some b ≡ last (bit (get_or ws i 0)) 64 → LastOne ws (i * 64 + b)
  last_in b e =
      let r = last_is (bit (get_or ws i 0)) 64 b (sym e) in
      record { one = bit_at-word ws i b r.within ∙ r.one; after = λ j h. by j h (dec_lt j (used * 64)) }
    where
      by : (j : ℕ) → suc (i * 64 + b) ≤ j → Dec (j < used * 64) → bit_at ws j ≡ 0
      by j h (yes l) =
          let d : ℕ = j - i * 64 in
          let s : i * 64 + d ≡ j = omega arith in
          let k : d < 64 = omega (arith, used_pos) in
          not_one (bit_at ws j) (bit_at_le ws j) (λ o. (last_is (bit (get_or ws i 0)) 64 b (sym e)).after d (omega arith) k (sym (bit_at-word ws i d k) ∙ ap (bit_at ws) s ∙ o))
      by j h (no g) = unset.clear-past ws fit (used * 64) used end (omega arith) j (omega (arith, lt_of_not-le g))

  pub last_lt : (b : ℕ) → Some b ≡ last (bit (get_or ws i 0)) 64 → b < 64
  last_lt b e = (last_is (bit (get_or ws i 0)) 64 b (sym e)).within

  pub last_there : (o : Option ℕ) → o ≡ last (bit (get_or ws i 0)) 64 → IsSome o
  last_there (Some b) e = refl
  last_there None e =
      absurd (end.some i (omega (arith, used_pos)) (no_bits (get_or ws i 0) (fit i) (λ j l.
      not_one (bit (get_or ws i 0) j) (bit_le (get_or ws i 0) j) (last_nothing (bit (get_or ws i 0)) 64 (sym e) j l))))

-- there is one last one
same-last : (ws : List ℕ) (p q : ℕ) → LastOne ws p → LastOne ws q → p ≡ q
same-last ws p q a b = by (dec_lt p q) (dec_lt q p)
  where
    by : Dec (p < q) → Dec (q < p) → p ≡ q
    by (yes l) d = let z = a.after q l in absurd (omega (arith, b.one))
    by (no g) (yes l) = let z = b.after p l in absurd (omega (arith, a.one))
    by (no g) (no h) = omega (arith, lt_of_not-le g, lt_of_not-le h)

-- as many ones as are before it have places
pub number_le : (ws : List ℕ) (p m r : ℕ) → LastOne ws p → suc (count (bit_at ws) p) ≡ m → LastOne ws r → m - 1 ≤ r
number_le ws p m r a e b = let q = same-last ws p r a b in let h = rank_le ws p in omega arith

pub held_last : (low : List ℕ) (l m : ℕ) → 0 < m → Held l low m → Held l low (m - 1 + 1)
held_last low l m h = subst (Held l low) (let e : m ≡ m - 1 + 1 = omega arith in e)

-- ---- its time

-- the time t, if it is below u
abbrev pub below : ℕ → ℕ → Option ℕ
below u t = cond (ltb t u) (Some t) None

module _ (high low : List ℕ) (u l k r : ℕ) (hu : u < 2 ^ 64) (narrow : l < 64) (is : LastOne high r) where
  -- for the last one, wherever it was found
  any : (c : Option ℕ) → c ≡ below u (time_at l low k r) → (p : ℕ) → LastOne high p → c ≡ below u (time_at l low k p)
  any c e p h = e ∙ ap (λ (q : ℕ). below u (time_at l low k q)) (same-last high r p is h)

  -- its high bits are above those of u
  pub too_high : u / 2 ^ l < r - k → (p : ℕ) → LastOne high p → None ≡ below u (time_at l low k p)
  too_high h =
      let P : ℕ = 2 ^ l in
      let s : u / P * P + u % P ≡ u = split u l in
      let m : u % P < P = mod-lt u (pow_pos l) in
      let g : (u / P + 1) * P ≤ (r - k) * P = mul-le-mul_right P (let e : u / P + 1 ≤ r - k = omega arith in e) in
      let f : u ≤ time_at l low k r = omega arith in
      any None (ap (λ b. cond b (Some (time_at l low k r)) None) (sym (le-ltb (time_at l low k r) u f)))

  -- or not: then they stay in the word when shifted
  module _ (h : r - k ≤ u / 2 ^ l) where
    upper_lt : r - k < 2 ^ (64 - l)
    upper_lt = lt_of_le_of_lt h (shr_lt {n = u} (64 - l) l (subst⁻¹ (λ (n : ℕ). u < 2 ^ n) (let e : 64 - l + l ≡ 64 = omega arith in e) hu))

    whole : 2 ^ (64 - l) * 2 ^ l ≡ 2 ^ 64
    whole = sym (pow-add 2 (64 - l) l) ∙ ap (λ (n : ℕ). 2 ^ n) (let e : 64 - l + l ≡ 64 = omega arith in e)

    time_lt : (b : ℕ) → b < 2 ^ l → (r - k) * 2 ^ l + b < 2 ^ 64
    time_lt b g = subst (λ (n : ℕ). (r - k) * 2 ^ l + b < n) whole (digits_lt upper_lt g)

    module _ (b : ℕ) (eb : b ≡ low_bits l low k) where
      pub time_is : ((r - k) * 2 ^ l) % 2 ^ 64 + b ≡ time_at l low k r
      time_is =
          let g : (r - k) * 2 ^ l < 2 ^ 64 = lt_of_le_of_lt (let e : (r - k) * 2 ^ l ≤ (r - k) * 2 ^ l + 0 = omega arith in e) (time_lt 0 (pow_pos l)) in
          ap₂ (λ (x y : ℕ). x + y) (mod-eq_of_lt {n = (r - k) * 2 ^ l} {m = 2 ^ 64} g) eb

      pub time_fits : ((r - k) * 2 ^ l) % 2 ^ 64 + b < 2 ^ 64
      time_fits = subst⁻¹ (λ (n : ℕ). n < 2 ^ 64) time_is (time_lt (low_bits l low k) (low_bits_lt l low k))

      pub time_if : (o : Option ℕ) → o ≡ then_some (ltb (((r - k) * 2 ^ l) % 2 ^ 64 + b) u) (((r - k) * 2 ^ l) % 2 ^ 64 + b) → (p : ℕ) → LastOne high p → o ≡ below u (time_at l low k p)
      time_if o e = any o (e ∙ ap (λ (t : ℕ). then_some (ltb t u) t) time_is ∙ by (ltb (time_at l low k r) u) (time_at l low k r))
        where
          by : (c : Bool) (t : ℕ) → then_some c t ≡ cond c (Some t) None
          by true t = refl
          by false t = refl
