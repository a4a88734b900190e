-- Rank inside a bucket, step by step: walking back from its end, and halving between its ends. Assumes nothing.
use mathlib.Core.Path.{◌≡◌, refl, sym, ap, ◌∙◌, subst⁻¹}
use mathlib.Core.List.{List}
use mathlib.Core.Bool.{Bool, true, false}
use Prim.Native.Nat.{ℕ, zero, suc, min, ◌+◌, ◌-◌, ◌*◌, ◌/◌, ◌%◌, ◌^◌, ◌≤◌, ◌<◌}
use native.Mathlib.Nat.{le_refl, le_of_lt, lt_of_not-le}
use native.Mathlib.Decide.{dec_lt}
use native.Mathlib.Omega.{arith}
use borrow.Author.Tests.{leb-true, leb-false}
use lib.Bits.{bit_and, and_step, and_zero_l}
use lib.Dec.{leb}
use lib.ListN.{length, get_or}
use lib.Pow.{split}
use Rattle.broadword.specs.Fields.{flag}
use Rattle.broadword.proofs.Truth.{flag_le}
use Rattle.bit_words.specs.Vector.{bit_at}
use Rattle.bit_words.proofs.Runs.{bit_at_le}
use Rattle.elias_fano.specs.declared.image.Parts.{Parts}
use Rattle.elias_fano.specs.Accept.{universe, times}
use Rattle.elias_fano.specs.Ask.{below}
use Rattle.elias_fano.proofs.Selecting as selecting
use Rattle.elias_fano.specs.Opening.{Open, high_part}
use Rattle.elias_fano_queries.proofs.Below as below-law
use Rattle.elias_fano_queries.proofs.Opened as opened
use Rattle.elias_fano_queries.proofs.Upper as upper

-- two bits
and_bits : (a b : ℕ) → a ≤ 1 → b ≤ 1 → bit_and a b ≡ min a b
and_bits a b h g =
    let z : a / 2 ≡ 0 = omega arith in
    and_step a b ∙ ap (λ (q : ℕ). bit_and q (b / 2) * 2 + min (a % 2) (b % 2)) z ∙ ap (λ (q : ℕ). q * 2 + min (a % 2) (b % 2)) (and_zero_l (b / 2))
    ∙ (let e : 0 * 2 + min (a % 2) (b % 2) ≡ min a b = omega arith in e)

pub not_zero : (b : ℕ) → b ≤ 1 → (b ≡ 0 → ⊥) → b ≡ 1
not_zero zero h g = absurd (g refl)
not_zero (suc b) h g = omega arith

flag_one : (t : Bool) → flag t ≡ 1 → t ≡ true
flag_one true e = refl
flag_one false e = absurd (omega arith)

flag_zero : (t : Bool) → flag t ≡ 0 → t ≡ false
flag_zero true e = absurd (omega arith)
flag_zero false e = refl

module _ (i : List ℕ) (p : Parts) (o : Open i p) (v : ℕ) where
  abbrev T : List ℕ
  T = times i

  abbrev l : ℕ
  l = p.low_len

  abbrev h : ℕ
  h = v / 2 ^ l

  abbrev u : ℕ
  u = universe i

  pub pushed_is : p.num_pushed ≡ length T
  pushed_is = selecting.pushed_is i o.ok p o.parts

  -- ---- the ends of the bucket

  pub first_le : below (h * 2 ^ l) T ≤ below v T
  first_le = below-law.below_mono (h * 2 ^ l) v T (let a = split v l in omega arith)

  pub end_ge : below v T ≤ below ((h + 1) * 2 ^ l) T
  end_ge = below-law.below_mono v ((h + 1) * 2 ^ l) T (le_of_lt (upper.time_lt l v h (le_refl h)))

  module _ (e : ℕ) (ee : e ≡ below ((h + 1) * 2 ^ l) T) where
    pub end_le : e ≤ p.num_pushed
    end_le = let a = below-law.below_le u ((h + 1) * 2 ^ l) T in let b = pushed_is in omega arith

    pub begins : below v T ≤ e
    begins = let a = end_ge in omega arith

    pub place_lt : v < p.universe → (k : ℕ) → k ≤ e → h + k < p.high_len
    place_lt g k q = opened.within i o.ok p o.parts v k (le_of_lt g) (let a = end_le in let b = pushed_is in omega arith)

    -- ---- walking back: the value before the number j

    module _ (j : ℕ) (some : 0 < j) (lo : below v T ≤ j) (hi : j ≤ e) where
      abbrev k : ℕ
      k = j - 1

      lo' : below v T ≤ suc (j - 1)
      lo' = omega arith

      hi' : suc (j - 1) ≤ below ((h + 1) * 2 ^ l) T
      hi' = omega arith

      stops : get_or T (j - 1) 0 < v → j ≡ below v T
      stops g =
          let a = below-law.past_time u v T (opened.rises i o.ok) (j - 1) (let c = end_le in let d = pushed_is in omega arith) g in
          omega arith

      pub stop_zero : bit_at (high_part i p) (h + (j - 1)) ≡ 0 → j ≡ below v T
      stop_zero z = stops (opened.less_high i o.ok p o.parts v (j - 1) lo' hi' (λ g. omega arith))

      module _ (x y : ℕ) (ex : x ≡ get_or T (j - 1) 0 % 2 ^ l) (ey : y ≡ v % 2 ^ l) where
        pub stop_low : x < y → j ≡ below v T
        stop_low g = stops (upper.low_less l (get_or T (j - 1) 0) v (opened.upto_high i o.ok p o.parts v (j - 1) lo' hi') (omega arith))

        pub go_back : v < p.universe → bit_at (high_part i p) (h + (j - 1)) ≡ 1 → y ≤ x → below v T ≤ j - 1
        go_back q e g =
            below-law.upto_time u v T (opened.rises i o.ok) (j - 1)
            (upper.low_not_less l (get_or T (j - 1) 0) v (opened.same_high i o.ok p o.parts v (j - 1) lo' hi' (place_lt q (j - 1) (omega arith)) e) (omega arith))

    -- of the two bits before the end one is not set: the last value alone decides
    pub at_most_one : v < p.universe → 2 ≤ e → (a b c y : ℕ) → a ≡ bit_at (high_part i p) (h + (e - 1)) → b ≡ bit_at (high_part i p) (h + (e - 2)) → bit_and a b ≡ 0 → y ≡ v % 2 ^ l → c ≡ flag (leb y (get_or T (e - 1) 0 % 2 ^ l)) → e - bit_and a c ≡ below v T
    at_most_one q two a b c y ea eb z ey ec = go (dec_lt a 1) (dec_lt c 1)
      where
        x : ℕ
        x = get_or T (e - 1) 0 % 2 ^ l

        ha : a ≤ 1
        ha = subst⁻¹ (λ (n : ℕ). n ≤ 1) ea (bit_at_le (high_part i p) (h + (e - 1)))

        hb : b ≤ 1
        hb = subst⁻¹ (λ (n : ℕ). n ≤ 1) eb (bit_at_le (high_part i p) (h + (e - 2)))

        hc : c ≤ 1
        hc = subst⁻¹ (λ (n : ℕ). n ≤ 1) ec (flag_le (leb y x))

        m : bit_and a c ≡ min a c
        m = and_bits a c ha hc

        go : Dec (a < 1) → Dec (c < 1) → e - bit_and a c ≡ below v T
        go (yes f) _ = let w = stop_zero e (omega arith) begins (le_refl e) (sym ea ∙ (let n : a ≡ 0 = omega arith in n)) in let n = m in omega arith
        go (no f) (yes g) =
            let n = m in
            let w = stop_low e (omega arith) begins (le_refl e) x y refl ey (leb-false y x (flag_zero (leb y x) (sym ec ∙ (let k : c ≡ 0 = omega arith in k)))) in
            omega arith
        go (no f) (no g) =
            let n = m in
            let o = and_bits a b ha hb in
            let fa = lt_of_not-le f in
            let gc = lt_of_not-le g in
            let ka = ha in
            let kc = hc in
            let one : a ≡ 1 = omega arith in
            let w = go_back e (omega arith) begins (le_refl e) x y refl ey q (sym ea ∙ one) (leb-true y x (flag_one (leb y x) (sym ec ∙ (let k : c ≡ 1 = omega arith in k)))) in
            let k : h + (e - 2) ≡ h + (e - 1 - 1) = omega arith in
            let d = stop_zero (e - 1) (omega arith) w (omega arith) (ap (bit_at (high_part i p)) (sym k) ∙ sym eb ∙ (let j : b ≡ 0 = omega arith in j)) in
            omega arith

    -- ---- halving: the value in the middle

    module _ (f : ℕ) (ef : f ≡ below (h * 2 ^ l) T) (k : ℕ) (from : f ≤ k) (to : k < e) (x y : ℕ) (ex : x ≡ get_or T k 0 % 2 ^ l) (ey : y ≡ v % 2 ^ l) where
      in_list : k < length T
      in_list = let a = end_le in let b = pushed_is in omega arith

      high_upto : get_or T k 0 / 2 ^ l ≤ h
      high_upto = upper.upper_le l (get_or T k 0) h (below-law.below-before u ((h + 1) * 2 ^ l) T (opened.rises i o.ok) k (omega arith))

      high_from_lem : h ≤ get_or T k 0 / 2 ^ l
      high_from_lem = upper.upper_from l (get_or T k 0) h (below-law.below-after u (h * 2 ^ l) T (opened.rises i o.ok) k (omega arith) in_list)

      pub up : x < y → k + 1 ≤ below v T
      up g =
          let a = below-law.past_time u v T (opened.rises i o.ok) k in_list (upper.low_less l (get_or T k 0) v high_upto (omega arith)) in
          omega arith

      pub down : y ≤ x → below v T ≤ k
      down g = below-law.upto_time u v T (opened.rises i o.ok) k (upper.low_not_less l (get_or T k 0) v high_from_lem (omega arith))
