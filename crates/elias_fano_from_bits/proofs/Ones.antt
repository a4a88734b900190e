-- The places of the ones of a bit vector as a list of times: in order and below the length; how many are below a place; the settings of their record. Assumes nothing.
use mathlib.Core.Path.{◌≡◌, ap, ◌∙◌, subst}
use mathlib.Core.List.{List}
use mathlib.Core.Bool.{true}
use Prim.Native.Nat.{ℕ, zero, suc, ◌-◌, ◌≤◌, ◌<◌, min}
use native.Mathlib.Decide.{ℕ_discrete, dec_le}
use native.Mathlib.Nat.{le_refl, lt_of_not-le, lt_of_lt_of_le}
use native.Mathlib.Omega.{arith}
use borrow.Author.Tests.{eq-eqb, ne_eqb}
use lib.ListN.{length, get_or}
use Rattle.broadword.specs.Bits.{count}
use Rattle.broadword.proofs.Count.{count_mono}
use Rattle.broadword.proofs.Find.{Selected}
use Rattle.bit_words.specs.Vector.{bit_over}
use Rattle.bit_words.proofs.Runs.{bit_over_le}
use Rattle.darray_positions.specs.Positions.{places}
use Rattle.darray_positions.proofs.Positions as position
use Rattle.elias_fano_words.specs.Times.{rising, last_of}
use Rattle.elias_fano_words.proofs.Bitwise.{count_suc}
use Rattle.elias_fano_words.proofs.Rising.{rising_none, rising_snoc, last_of_snoc}
use Rattle.elias_fano.specs.Ask.{below}
use Rattle.elias_fano.proofs.Images.{Fits}
use Rattle.elias_fano_queries.proofs.Below.{below_is}
use Rattle.elias_fano_from_bits.specs.Building.{Countable}
use Rattle.elias_fano_from_bits.specs.FromBits.{ones_of}

-- ---- places are in order

module _ (f : ℕ → ℕ) (u : ℕ) where
  abbrev InOrder : List ℕ → ℕ → Type 0
  InOrder T n = (rising u 0 T ≡ true) × (last_of T ≤ n)

  places_rise : (n : ℕ) → n ≤ u → InOrder (places f n) n
  unfolding places
  places_rise zero h = (rising_none u 0, omega arith)
  places_rise (suc n) h = by (places_rise n (omega arith)) (ℕ_discrete (f n) 1)
    where
      by : InOrder (places f n) n → Dec (f n ≡ 1) → InOrder (places f (suc n)) (suc n)
      by ih (yes e) = rw (eq-eqb (f n) 1 e) (rising_snoc u (places f n) n ih.0 ih.1 h, (let d = last_of_snoc (places f n) n in omega arith))
      by ih (no e) = rw (ne_eqb (f n) 1 e) (ih.0, (let d = ih.1 in omega arith))

module _ (ws : List ℕ) (len : ℕ) where
  abbrev f : ℕ → ℕ
  f = bit_over true ws

  abbrev T : List ℕ
  T = ones_of ws len

  bits : (i : ℕ) → bit_over true ws i ≤ 1
  bits = bit_over_le true ws

  pub many : length (ones_of ws len) ≡ count (bit_over true ws) len
  many = position.length-places f bits len

  pub rises : rising len 0 (ones_of ws len) ≡ true
  rises = (places_rise f len len (le_refl len)).0

  pub has : (k : ℕ) → k < length (ones_of ws len) → Selected (bit_over true ws) len k (get_or (ones_of ws len) k 0)
  has k h = position.place_has f bits len k (subst (λ (y : ℕ). k < y) many h)

  pub is : (k i : ℕ) → bit_over true ws i ≡ 1 → count (bit_over true ws) i ≡ k → k < length (ones_of ws len) → get_or (ones_of ws len) k 0 ≡ i
  is k i e r h = position.place_is f bits len k i e r (subst (λ (y : ℕ). k < y) many h)

  -- ---- how many are below a place

  below-within : (x : ℕ) → x ≤ len → below x T ≡ count f x
  below-within x h =
      let m = many in
      let c = count_mono f x len h in
      below_is len x T rises (count f x) (omega arith)
      (λ (g : 0 < count f x). let k : ℕ = count f x - 1 in position.below f (get_or T k 0) x (let s = (has k (omega arith)).before in omega arith))
      (λ (g : count f x < length T). let s = has (count f x) g in least s (dec_le x (get_or T (count f x) 0)))
    where
      least : Selected f len (count f x) (get_or T (count f x) 0) → Dec (x ≤ get_or T (count f x) 0) → x ≤ get_or T (count f x) 0
      least s (yes l) = l
      least s (no l) =
          let a = count_mono f (suc (get_or T (count f x) 0)) x (lt_of_not-le l) in
          let b = count_suc f (get_or T (count f x) 0) in
          absurd (omega (arith, s.one, s.before))

  below-past : (x : ℕ) → len ≤ x → below x T ≡ count f len
  below-past x h =
      below_is len x T rises (length T) (le_refl (length T)) (λ (g : 0 < length T). lt_of_lt_of_le (has (length T - 1) (omega arith)).within h) (λ g. absurd (omega arith)) ∙ many

  pub below-upto : (x : ℕ) → below x (ones_of ws len) ≡ count (bit_over true ws) (min x len)
  below-upto x = by (dec_le x len)
    where
      by : Dec (x ≤ len) → below x T ≡ count f (min x len)
      by (yes h) = below-within x h ∙ ap (count f) (let e : x ≡ min x len = omega arith in e)
      by (no h) = let g = lt_of_not-le h in below-past x (omega arith) ∙ ap (count f) (let e : len ≡ min x len = omega arith in e)

pub fits : (ws : List ℕ) (len : ℕ) → Countable ws len → Fits len (length (ones_of ws len)) (ones_of ws len)
fits ws len ok = record { small = ok.small; some = ok.some; most = ok.most; few = le_refl (length (ones_of ws len)); rises = rises ws len }
