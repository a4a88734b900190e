-- The ends of a block of prefix sums, and what it spills. Assumes nothing.
use mathlib.Core.Path.{◌≡◌, sym, ap, ap₂, ◌∙◌, subst}
use mathlib.Core.List.{List}
use mathlib.Core.Bool.{true, cond}
use Prim.Native.Nat.{ℕ, suc, ◌+◌, ◌-◌, ◌*◌, ◌/◌, ◌^◌, ◌≤◌, ◌<◌, min}
use native.Mathlib.Decide.{dec_le}
use native.Mathlib.Nat.{lt_of_not-le, le_of_eq}
use native.Mathlib.Omega.{arith}
use lib.Dec.{leb}
use lib.ListN.{length, get_or, take}
use lib.Pow.{shr_mono}
use lib.Seq.{take_all}
use Rattle.darray_positions.specs.Index.{spill, before}
use Rattle.darray_positions.proofs.Index as index
use Rattle.elias_fano_words.specs.Image.{high_positions}
use Rattle.elias_fano_words.specs.Sizes.{low_len}
use Rattle.elias_fano_words.proofs.Bounds as bounds
use Rattle.elias_fano.proofs.Spilled as spilled
use Rattle.prefix_summed_elias_fano.specs.Building.{Summable}
use Rattle.prefix_summed_elias_fano.specs.Sums.{sum, sums}
use Rattle.prefix_summed_elias_fano.proofs.Sums as sums-law

-- sums of first items do not fall
pub sum_mono : (A : List ℕ) (a b : ℕ) → a ≤ b → sum (take a A) ≤ sum (take b A)
sum_mono A a b h = let e = sums-law.sum_part A a b h in omega arith

module _ (A : List ℕ) (j : ℕ) (h : 1024 * j < length A) where
  abbrev u : ℕ
  u = suc (sum A)

  abbrev n : ℕ
  n = length A

  abbrev z : ℕ
  z = min 1024 (length A - 1024 * j)

  abbrev l : ℕ
  l = low_len (suc (sum A)) (length A)

  pub some : 1 ≤ min 1024 (length A - 1024 * j)
  some = omega arith

  pub inside : 1024 * j + min 1024 (length A - 1024 * j) ≤ length A
  inside = omega arith

  -- the sum up to the next block
  pub up_to_next : sum (take (1024 * j + min 1024 (length A - 1024 * j)) A) ≡ sum (take (1024 * (j + 1)) A)
  up_to_next = go (dec_le (1024 * (j + 1)) (length A))
    where
      go : Dec (1024 * (j + 1) ≤ length A) → sum (take (1024 * j + min 1024 (length A - 1024 * j)) A) ≡ sum (take (1024 * (j + 1)) A)
      go (yes g) = ap (λ (k : ℕ). sum (take k A)) (let e : 1024 * j + min 1024 (length A - 1024 * j) ≡ 1024 * (j + 1) = omega arith in e)
      go (no g) =
          let b = lt_of_not-le g in
          ap sum (take_all (1024 * j + min 1024 (length A - 1024 * j)) A (omega arith) ∙ sym (take_all (1024 * (j + 1)) A (omega arith)))

  module _ (first last : ℕ) (ef : first ≡ sum (take (1024 * j + 1) A)) (el : last ≡ sum (take (1024 * j + min 1024 (length A - 1024 * j)) A)) where
    first_is : get_or (sums A) (1024 * j) 0 ≡ first
    first_is = sums-law.get_d_sums A (1024 * j) h ∙ sym (ef ∙ ap (λ (k : ℕ). sum (take k A)) (let e : 1024 * j + 1 ≡ suc (1024 * j) = omega arith in e))

    last_is : get_or (sums A) (1024 * j + (z - 1)) 0 ≡ last
    last_is =
        sums-law.get_d_sums A (1024 * j + (z - 1)) (omega arith)
        ∙ sym (el ∙ ap (λ (k : ℕ). sum (take k A)) (let e : 1024 * j + min 1024 (length A - 1024 * j) ≡ suc (1024 * j + (min 1024 (length A - 1024 * j) - 1)) = omega arith in e))

    rise : first ≤ last
    rise = let a = sum_mono A (1024 * j + 1) (1024 * j + min 1024 (length A - 1024 * j)) (omega arith) in omega arith

    pub places_rise : first / 2 ^ l + 1024 * j ≤ last / 2 ^ l + (1024 * j + (min 1024 (length A - 1024 * j) - 1))
    places_rise = let a = shr_mono l rise in omega arith

    pub spill_is : cond (leb 65536 (last / 2 ^ l + (1024 * j + (z - 1)) - (first / 2 ^ l + 1024 * j))) z 0 ≡ spill (high_positions u n true (sums A)) j
    spill_is =
        let m = sums-law.length-sums 0 A in
        let e = spilled.spill_high u n (sums A) (sums-law.sums_rise A) (le_of_eq m) j (subst (λ (y : ℕ). 1024 * j < y) (sym m) h) in
        ap₂ (λ (x y : ℕ). cond (leb 65536 (y / 2 ^ l + (1024 * j + (z - 1)) - (x / 2 ^ l + 1024 * j))) z 0) (sym first_is) (sym last_is)
        ∙ ap (λ (y : ℕ). cond (leb 65536 (get_or (sums A) (1024 * j + (min 1024 (y - 1024 * j) - 1)) 0 / 2 ^ l + (1024 * j + (min 1024 (y - 1024 * j) - 1)) - (get_or (sums A) (1024 * j) 0 / 2 ^ l + 1024 * j))) (min 1024 (y - 1024 * j)) 0) (sym m) ∙ e

-- ---- with the low length and the block's size as the program has them

module _ (A : List ℕ) (ok : Summable A) (l' : ℕ) (el : l' ≡ low_len (suc (sum A)) (length A)) where
  pub low_small : l' < 64
  low_small = subst (λ (y : ℕ). y < 64) (sym el) (bounds.low_lt (suc (sum A)) (length A) (let a = ok.small in omega arith) ok.some)

  -- the high bits of a sum
  pub high_small : (k x : ℕ) → x ≡ sum (take k A) → x / 2 ^ l' < 2 * length A
  high_small k x e =
      let a : x ≤ suc (sum A) = let b = sums-law.sum-upto A k in omega arith in
      let c = shr_mono (low_len (suc (sum A)) (length A)) a in
      let d = bounds.high_lt (suc (sum A)) (length A) (let b = ok.small in omega arith) ok.some in
      subst (λ (y : ℕ). x / 2 ^ y < 2 * length A) (sym el) (omega arith)

module _ (A : List ℕ) (j : ℕ) (h : 1024 * j < length A) (l' : ℕ) (el : l' ≡ low_len (suc (sum A)) (length A)) (z' first last : ℕ) (ez : z' ≡ min 1024 (length A - 1024 * j)) (ef : first ≡ sum (take (1024 * j + 1) A)) (ee : last ≡ sum (take (1024 * j + z') A)) where
  ee' : last ≡ sum (take (1024 * j + min 1024 (length A - 1024 * j)) A)
  ee' = ee ∙ ap (λ (y : ℕ). sum (take (1024 * j + y) A)) ez

  pub span_rises : first / 2 ^ l' + 1024 * j ≤ last / 2 ^ l' + (1024 * j + (z' - 1))
  span_rises = subst (λ (y : ℕ). first / 2 ^ y + 1024 * j ≤ last / 2 ^ y + (1024 * j + (z' - 1))) (sym el) (subst (λ (y : ℕ). first / 2 ^ l A j h + 1024 * j ≤ last / 2 ^ l A j h + (1024 * j + (y - 1))) (sym ez) (places_rise A j h first last ef ee'))

  pub share_is : cond (leb 65536 (last / 2 ^ l' + (1024 * j + (z' - 1)) - (first / 2 ^ l' + 1024 * j))) z' 0 ≡ spill (high_positions (suc (sum A)) (length A) true (sums A)) j
  share_is = ap₂ (λ (x y : ℕ). cond (leb 65536 (last / 2 ^ x + (1024 * j + (y - 1)) - (first / 2 ^ x + 1024 * j))) y 0) el ez ∙ spill_is A j h first last ef ee'

-- ---- what the blocks before j spill

pub before_small : (A : List ℕ) (j : ℕ) → before (high_positions (suc (sum A)) (length A) true (sums A)) j ≤ length A
before_small A j =
    let m = sums-law.length-sums 0 A in
    let a = index.before_le (high_positions (suc (sum A)) (length A) true (sums A)) j in
    let b = spilled.many (suc (sum A)) (length A) (sums A) (sums-law.sums_rise A) (le_of_eq m) in
    omega arith
