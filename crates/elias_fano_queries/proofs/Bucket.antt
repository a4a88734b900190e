-- Rank by the high bits: the zero that ends a bucket, the ones before it, and where a value's neighbours stand. Assumes nothing.
use Rattle.std.specs.Prelude.{Some}
use mathlib.Core.Path.{◌≡◌, refl, sym, ap, ◌∙◌, subst}
use mathlib.Core.List.{List}
use mathlib.Core.Bool.{true, false}
use Prim.Native.Nat.{ℕ, suc, ◌+◌, ◌-◌, ◌*◌, ◌/◌, ◌^◌, ◌≤◌, ◌<◌}
use native.Mathlib.Nat.{le_refl, lt_of_not-le, le_of_suc-le-suc, le_of_lt, lt_of_lt_of_le}
use native.Mathlib.Decide.{dec_le, dec_lt}
use native.Mathlib.Omega.{arith}
use lib.ListN.{length, get_or}
use lib.Pow.{shr_mono}
use Rattle.broadword.specs.Bits.{count}
use Rattle.broadword.specs.Places.{select}
use Rattle.broadword.proofs.Count.{count_mono}
use Rattle.broadword.proofs.Find.{Selected, selected, select_at}
use Rattle.bit_words.specs.Vector.{bit_at, bit_over}
use Rattle.bit_words.proofs.Runs.{bit_at_le}
use Rattle.darray_positions.proofs.Positions.{below as place-below}
use Rattle.elias_fano_words.specs.Image.{high_words}
use Rattle.elias_fano_words.specs.Sizes.{low_len, high_len}
use Rattle.elias_fano_words.specs.Times.{rising}
use Rattle.elias_fano_words.proofs.Bitwise.{count_suc}
use Rattle.elias_fano_words.proofs.Decode.{select_high, count_high}
use Rattle.elias_fano_words.proofs.Ones.{place_of}
use Rattle.elias_fano.specs.Ask.{below}
use Rattle.elias_fano_words.proofs.Lengths.{all_bits, ones_are}
use Rattle.elias_fano_queries.proofs.Below as below-law
use Rattle.elias_fano_queries.proofs.Upper as upper

at_inj : (a b : ℕ) → Some a ≡ Some b → a ≡ b
at_inj a b e = cc

-- a zero of the words is a bit that is 0
zero_bit : (ws : List ℕ) (x : ℕ) → bit_over false ws x ≡ 1 → bit_at ws x ≡ 0
unfolding bit_over
zero_bit ws x e = let a = bit_at_le ws x in omega arith

module _ (u n : ℕ) (T : List ℕ) (r : rising u 0 T ≡ true) (few : length T ≤ n) where
  abbrev l : ℕ
  l = low_len u n

  abbrev H : ℕ
  H = high_len u n

  abbrev W : List ℕ
  W = high_words u n T

  abbrev f : ℕ → ℕ
  f = bit_at W

  placed : (k : ℕ) → k < length T → Selected f H k (place_of l T k)
  placed k h = selected f H k (place_of l T k) (select_high u n T r few k h)

  -- the one with the number k stands at x, if a one stands there with as many before it
  number_at : (x : ℕ) → x < H → f x ≡ 1 → (count f x < length T) × (x ≡ place_of l T (count f x))
  number_at x h o =
      let c : count f x < length T = lt_of_lt_of_le (let a = count_suc f x in let d : count f x < count f (suc x) = omega arith in d) (subst (λ (y : ℕ). count f (suc x) ≤ y) (count_high u n T r few) (count_mono f (suc x) H h)) in (
        c,
        at_inj x (place_of l T (count f x)) (sym (select_at f H (count f x) x h o refl) ∙ select_high u n T r few (count f x) c),
      )

  all_below : (x : ℕ) → x ≤ H → count f x ≤ length T
  all_below x h = subst (λ (y : ℕ). count f x ≤ y) (count_high u n T r few) (count_mono f x H h)

  -- ---- as many ones as values are below w stand before its high bits and that number

  pub within_high : (w k : ℕ) → w ≤ u → k ≤ length T → w / 2 ^ l + k < H
  unfolding high_len
  within_high w k h g = let a = shr_mono l h in omega arith

  within : (w : ℕ) → w ≤ u → w / 2 ^ l + below w T < H
  within w h = within_high w (below w T) h (below-law.below_le u w T)

  pub count_rank : (w : ℕ) → w ≤ u → count f (w / 2 ^ l + below w T) ≡ below w T
  count_rank w h = go (dec_le 1 (below w T)) (dec_lt (below w T) (length T))
    where
      b : ℕ
      b = below w T

      x : ℕ
      x = w / 2 ^ l + below w T

      least : 1 ≤ below w T → below w T ≤ count f (w / 2 ^ l + below w T)
      least g =
          let k : ℕ = below w T - 1 in
          let q : k < length T = let c = below-law.below_le u w T in omega arith in
          let p = placed k q in
          let t : get_or T k 0 / 2 ^ l ≤ w / 2 ^ l = shr_mono l (le_of_lt (below-law.below-before u w T r k (omega arith))) in
          let m = count_mono f (suc (place_of l T k)) (w / 2 ^ l + below w T) (omega arith) in
          let s = count_suc f (place_of l T k) in
          let o = p.one in
          let e = p.before in
          omega arith

      most : below w T < length T → count f (w / 2 ^ l + below w T) ≤ below w T
      most g =
          let p = placed (below w T) g in
          let t : w / 2 ^ l ≤ get_or T (below w T) 0 / 2 ^ l = shr_mono l (below-law.below-after u w T r (below w T) (le_refl (below w T)) g) in
          subst (λ (y : ℕ). count f (w / 2 ^ l + below w T) ≤ y) p.before (count_mono f (w / 2 ^ l + below w T) (place_of l T (below w T)) (omega arith))

      go : Dec (1 ≤ below w T) → Dec (below w T < length T) → count f (w / 2 ^ l + below w T) ≡ below w T
      go (yes g) (yes k) = let a = least g in let c = most k in omega arith
      go (yes g) (no k) = let a = least g in let c = all_below (w / 2 ^ l + below w T) (le_of_lt (within w h)) in omega (arith, lt_of_not-le k)
      go (no g) (yes k) = let c = most k in omega (arith, lt_of_not-le g)
      go (no g) (no k) = let c = all_below (w / 2 ^ l + below w T) (le_of_lt (within w h)) in omega (arith, lt_of_not-le k, lt_of_not-le g)

  -- ---- the zero with the number h ends the values whose high bits are at most h

  module _ (h x : ℕ) (e : select (bit_over false W) H h ≡ Some x) where
    zero_at : Selected (bit_over false W) H h x
    zero_at = selected (bit_over false W) H h x e

    both : count f x + h ≡ x
    both = ap (λ (y : ℕ). y + h) (sym (ones_are W x)) ∙ (let a = zero_at.before in let c = all_bits W x in omega arith)

    pub after-zeros : h ≤ x
    after-zeros = let a = both in omega arith

    clear : f x ≡ 0
    clear = zero_bit W x zero_at.one

    last_in : (k : ℕ) → k + 1 ≡ count f x → get_or T k 0 < (h + 1) * 2 ^ l
    last_in k g =
        let m = all_below x (le_of_lt zero_at.within) in
        let p = placed k (omega arith) in
        let a = place-below f (place_of l T k) x (let d = p.before in omega arith) in
        upper.time_lt l (get_or T k 0) h (let d = both in omega arith)

    first_out : (k : ℕ) → k ≡ count f x → k < length T → (h + 1) * 2 ^ l ≤ get_or T k 0
    first_out k g q =
        let p = placed k q in
        upper.time_past l (get_or T k 0) h (let d = both in let a : x < place_of l T k = lt_of_not-le (λ (c : place_of l T k ≤ x). past c (dec_lt (place_of l T k) x)) in omega arith)
      where
        past : place_of l T k ≤ x → Dec (place_of l T k < x) → ⊥
        past c (yes d) =
            let m = count_mono f (suc (place_of l T k)) x d in
            let s = count_suc f (place_of l T k) in
            let o = (placed k q).one in
            let i = (placed k q).before in
            omega arith
        past c (no d) =
            let s : place_of l T k ≡ x = omega (arith, lt_of_not-le d) in
            let o : f x ≡ 1 = subst (λ (y : ℕ). f y ≡ 1) s (placed k q).one in
            let z = clear in
            omega arith

    pub zero_rank : x - h ≡ below ((h + 1) * 2 ^ l) T
    zero_rank =
        let a = both in
        sym (below-law.below_is u ((h + 1) * 2 ^ l) T r (x - h) (let m = all_below x (le_of_lt zero_at.within) in omega arith) (λ g. last_in (x - h - 1) (omega arith)) (λ g. first_out (x - h) (omega arith) g))

  -- ---- walking back from there

  module _ (v k : ℕ) (lo : below v T ≤ suc k) (hi : suc k ≤ below ((v / 2 ^ l + 1) * 2 ^ l) T) where
    in_list : k < length T
    in_list = let a = below-law.below_le u ((v / 2 ^ l + 1) * 2 ^ l) T in omega arith

    pub upto_high : get_or T k 0 / 2 ^ l ≤ v / 2 ^ l
    upto_high = upper.upper_le l (get_or T k 0) (v / 2 ^ l) (below-law.below-before u ((v / 2 ^ l + 1) * 2 ^ l) T r k hi)

    -- a one there is that of the value with the number k, which has the same high bits
    pub same_high : v / 2 ^ l + k < H → f (v / 2 ^ l + k) ≡ 1 → v / 2 ^ l ≤ get_or T k 0 / 2 ^ l
    same_high h o = le_of_suc-le-suc (lt_of_not-le (λ (g : suc (get_or T k 0 / 2 ^ l) ≤ v / 2 ^ l).
        let x : ℕ = v / 2 ^ l + k in
        let p = placed k in_list in
        let m = count_mono f (suc (place_of l T k)) x (omega arith) in
        let s = count_suc f (place_of l T k) in
        let a = p.one in
        let b = p.before in
        let j : ℕ = count f x in
        let q = number_at x h o in
        let t = shr_mono l (below-law.below-after u v T r j (omega arith) q.0) in
        let d = q.1 in
        omega arith))

    -- a zero there: its high bits are less
    pub less_high : (f (v / 2 ^ l + k) ≡ 1 → ⊥) → get_or T k 0 < v
    less_high g = upper.high_less l (get_or T k 0) v (lt_of_not-le (λ (c : v / 2 ^ l ≤ get_or T k 0 / 2 ^ l).
        let a = upto_high in
        let d : get_or T k 0 / 2 ^ l + k ≡ v / 2 ^ l + k = omega arith in
        g (subst (λ (y : ℕ). f y ≡ 1) d (placed k in_list).one)))
