-- What the checks of high and low words decide: whether they hold nothing but times in order. Assumes nothing.
use Rattle.std.specs.Prelude.{Some, None, Option, unwrap_or}
use mathlib.Core.Path.{◌≡◌, refl, sym, ap, ap₂, ◌∙◌, subst, subst⁻¹}
use mathlib.Core.List.{List, ◌++◌}
use mathlib.Core.Bool.{Bool, true, false, cond}
use Prim.Native.Nat.{ℕ, suc, ◌+◌, ◌-◌, ◌*◌, ◌^◌, ◌≤◌, ◌<◌}
use native.Mathlib.Nat.{le_of_eq, le_trans, lt_of_not-le, lt_of_le_of_lt, not-le_of_lt, mul-le-mul, pos_of_ne-zero, add-zero}
use native.Mathlib.Decide.{dec_le}
use native.Mathlib.Omega.{arith}
use borrow.Author.Tests.{ltb-true, ltb-false}
use lib.Dec.{ltb}
use lib.ListN.{length, take, drop, length-drop, take-append-drop}
use lib.Seq.{length-take-le, take_all}
use mir.Syntax.{w64}
use mir.Val.{Fits}
use Rattle.broadword.specs.Bits.{count}
use Rattle.broadword.specs.Places.{select}
use Rattle.broadword.proofs.Count.{count_add, count_zero}
use Rattle.broadword.proofs.Find.{Selected, select_at, select_some}
use Rattle.bit_words.specs.Vector.{bit_at, words_for}
use Rattle.bit_words.proofs.Last.{not_one}
use Rattle.bit_words.proofs.Runs.{Fit, bit_at_le}
use Rattle.darray_positions.specs.Index.{table}
use Rattle.elias_fano_words.specs.Sizes.{low_len, high_len}
use Rattle.elias_fano_words.specs.Times.{last_of, time_in, times_in, holds_if}
use Rattle.elias_fano_words.specs.Checks.{low_bits, InOrder, Clear, Held, LastOne, time_at, Filled, Checkable}
use Rattle.elias_fano_words.proofs.Ordering.{Ordered}
use Rattle.elias_fano_words.proofs.Bitwise.{count-one}
use Rattle.elias_fano_words.proofs.Bounds as bounds
use Rattle.elias_fano_words.proofs.Holds as held
use Rattle.elias_fano_words.proofs.LastTime.{below}
use Rattle.elias_fano_words.proofs.Rising.{last_of-table}

-- what `check` answers
abbrev answer : Bool → ℕ → ℕ → ℕ → List ℕ → Option ℕ
answer strict u n m ws = cond (holds_if u n strict m ws) (Some (last_of (times_in u n m ws))) None

-- the high words, s of them, and the low words after them, as the program parts them
abbrev front : ℕ → List ℕ → List ℕ
front s ws = take s ws

abbrev rest : ℕ → List ℕ → List ℕ
rest s ws = take (length ws - s) (drop s ws)

rest_is : (s : ℕ) (ws : List ℕ) → rest s ws ≡ drop s ws
rest_is s ws = take_all (length ws - s) (drop s ws) (le_of_eq (length-drop s ws))

parted : (s : ℕ) (ws : List ℕ) → front s ws ++ rest s ws ≡ ws
parted s ws = ap (λ (r : List ℕ). front s ws ++ r) (rest_is s ws) ∙ take-append-drop s ws

no_time : (f : ℕ → ℕ) (m : ℕ) → m ≡ 0 → last_of (table f m) ≡ 0
unfolding table
no_time f m e = ap (λ (k : ℕ). last_of (table f k)) e

-- the words and numbers that are checked, of which s are high words, and whether a repeat is wrong
pub record Given (strict : Bool) (u n m l len s : ℕ) (ws : List ℕ) : Type 0 where
  pub fit : Fit ws
  pub fits : u < 2 ^ 64
  pub ok : Checkable u n m l len ws
  pub is : s ≡ words_for len

module _ {strict : Bool} {u n m l len s : ℕ} {ws : List ℕ} (d : Given strict u n m l len s ws) where
  abbrev high : List ℕ
  high = front s ws

  abbrev low : List ℕ
  low = rest s ws

  abbrev f : ℕ → ℕ
  f = bit_at (front s ws)

  s_is : s ≡ words_for (high_len u n)
  s_is = d.is ∙ ap words_for d.ok.high

  pub s_le : s ≤ length ws
  s_le = omega (arith, s_is, d.ok.room)

  pub high_size : s ≡ length high
  high_size = sym (length-take-le s ws s_le)

  pub high_room : len ≤ length high * 64
  high_room = omega (arith, high_size, d.is)

  size : length high ≡ words_for (high_len u n)
  size = sym high_size ∙ s_is

  low_size : length low ≡ length ws - s
  low_size = ap length (rest_is s ws) ∙ length-drop s ws

  room : words_for (m * low_len u n) ≤ length low
  room = omega (arith, low_size, s_is, d.ok.room)

  pub narrow : l < 64
  narrow = lt_of_le_of_lt (le_of_eq d.ok.low) (bounds.low_lt u n d.fits d.ok.some)

  few_low : m * l ≤ 16777216 * 63
  few_low = let h = narrow in mul-le-mul (le_trans d.ok.upto d.ok.few) (let k : l ≤ 63 = omega arith in k)

  pub low_fits : Fits w64 (m * l)
  low_fits = record { fits = let h = few_low in omega arith }

  pub low_held : Held l low m
  low_held = record {
    number = omega (arith, d.ok.upto, d.ok.few);
    room = let e : m * l ≡ m * low_len u n = ap (λ (k : ℕ). m * k) d.ok.low in omega (arith, room);
    few = let h = few_low in omega arith;
  }

  -- ---- the answer

  fit_parts : Fit (high ++ low)
  fit_parts = subst⁻¹ Fit (parted s ws) d.fit

  wrong : (Ordered strict u n m high low → ⊥) → None ≡ answer strict u n m ws
  wrong z = by (holds_if u n strict m ws) refl
    where
      by : (b : Bool) → holds_if u n strict m ws ≡ b → None ≡ cond b (Some (last_of (times_in u n m ws))) None
      by true e = absurd (z (held.of_holds u n m high low size d.ok.upto room strict (ap (holds_if u n strict m) (parted s ws) ∙ e)))
      by false e = refl

  right : Ordered strict u n m high low → (t : ℕ) → t ≡ last_of (table (time_in u n high low) m) → Some t ≡ answer strict u n m ws
  right o t e =
      let h : holds_if u n strict m ws ≡ true = ap (holds_if u n strict m) (sym (parted s ws)) ∙ held.holds_of u n m high low size d.ok.upto room strict fit_parts o in
      let T : times_in u n m ws ≡ table (time_in u n high low) m = ap (times_in u n m) (sym (parted s ws)) ∙ held.times_are u n m high low size in
      ap Some (e ∙ ap last_of (sym T)) ∙ ap (λ b. cond b (Some (last_of (times_in u n m ws))) None) (sym h)

  pub not_clear : (Clear high len → ⊥) → None ≡ answer strict u n m ws
  not_clear z = wrong (λ o. z (subst⁻¹ (Clear high) d.ok.high o.high_clear))

  pub not_ones : (count f len ≡ m → ⊥) → None ≡ answer strict u n m ws
  not_ones z = wrong (λ o. z (ap (count f) d.ok.high ∙ o.ones))

  pub not_low : (Clear low (m * l) → ⊥) → None ≡ answer strict u n m ws
  not_low z = wrong (λ o. z (subst⁻¹ (λ (k : ℕ). Clear low (m * k)) d.ok.low o.low_clear))

  pub not_order : (InOrder strict l high low → ⊥) → None ≡ answer strict u n m ws
  not_order z = wrong (λ o. z (subst⁻¹ (λ (k : ℕ). InOrder strict k high low) d.ok.low o.order))

  -- ---- as many ones as times

  module _ (clear : Clear high len) (ones : count f len ≡ m) where
    total : count f (length high * 64) ≡ m
    total =
        let k : ℕ = length high * 64 - len in
        let e : length high * 64 ≡ len + k = omega (arith, high_room) in
        ap (count f) e ∙ count_add f len k ∙ ap₂ (λ (x y : ℕ). x + y) ones (count_zero (λ i. f (len + i)) k (λ i _. clear (len + i) (omega arith))) ∙ add-zero m

    pub ones_held : Held l low (count f (length high * 64))
    ones_held = subst⁻¹ (Held l low) total low_held

    module _ (some : m ≡ 0 → ⊥) where
      last-number : m - 1 < count f len
      last-number = let p = pos_of_ne-zero some in omega arith

      last_selected : (p : ℕ) × Selected f len (m - 1) p
      last_selected = select_some f len (m - 1) (bit_at_le high) last-number

      abbrev place : ℕ
      place = last_selected.0

      last_one : LastOne high place
      last_one = record { one = last_selected.1.one; after = λ i h. by i h (dec_le len i) }
        where
          by : (i : ℕ) → suc place ≤ i → Dec (len ≤ i) → f i ≡ 0
          by i h (yes g) = clear i g
          by i h (no g) =
              not_one (f i) (bit_at_le high i) (λ o.
              let a = count-one f place i last_selected.1.one h in
              let b = count-one f i len o (lt_of_not-le g) in
              omega (arith, last_selected.1.before))

      pub filled : Filled l high low m
      filled = record {
        place = place;
        last = last_one;
        before = let p = pos_of_ne-zero some in omega (arith, last_selected.1.before);
        narrow = narrow;
        held = low_held;
        few = let h = bounds.high_le u n d.fits d.ok.some in omega (arith, high_size, s_is, d.ok.few);
      }

      time_is : time_in u n high low (m - 1) ≡ time_at l low (m - 1) place
      unfolding time_in
      time_is =
          let r = last_selected.1 in
          let a : select f (high_len u n) (m - 1) ≡ _ = select_at f (high_len u n) (m - 1) place (subst (λ (k : ℕ). place < k) d.ok.high r.within) r.one r.before in
          ap (λ (x : Option ℕ). (unwrap_or x 0 - (m - 1)) * 2 ^ low_len u n + low_bits (low_len u n) low (m - 1)) a
          ∙ ap (λ (k : ℕ). time_at k low (m - 1) place) (sym d.ok.low)

    -- ---- and all else is right

    module _ (low_clear : Clear low (m * l)) (order : InOrder strict l high low) where
      ordered : (0 < m → time_in u n high low (m - 1) < u) → Ordered strict u n m high low
      ordered h = record {
        high_clear = subst (Clear high) d.ok.high clear;
        ones = ap (count f) (sym d.ok.high) ∙ ones;
        low_clear = subst (λ (k : ℕ). Clear low (m * k)) d.ok.low low_clear;
        order = subst (λ (k : ℕ). InOrder strict k high low) d.ok.low order;
        below = h;
      }

      pub none : m ≡ 0 → Some 0 ≡ answer strict u n m ws
      none e = right (ordered (λ h. absurd (omega arith))) 0 (sym (no_time (time_in u n high low) m e))

      pub by_last : (m ≡ 0 → ⊥) → (c : Option ℕ) → ((p : ℕ) → LastOne high p → c ≡ below u (time_at l low (m - 1) p)) → c ≡ answer strict u n m ws
      by_last some c h = h (place some) (last_one some) ∙ by (ltb (time_at l low (m - 1) (place some)) u) refl
        where
          by : (b : Bool) → ltb (time_at l low (m - 1) (place some)) u ≡ b → cond b (Some (time_at l low (m - 1) (place some))) None ≡ answer strict u n m ws
          by true e =
              let t = time_is some in
              right (ordered (λ _. subst⁻¹ (λ (x : ℕ). x < u) t (ltb-true (time_at l low (m - 1) (place some)) u e))) (time_at l low (m - 1) (place some))
              (sym t ∙ sym (last_of-table (time_in u n high low) m (pos_of_ne-zero some)))
          by false e =
              wrong (λ o. not-le_of_lt (subst (λ (x : ℕ). x < u) (time_is some) (o.below (pos_of_ne-zero some))) (ltb-false (time_at l low (m - 1) (place some)) u e))
