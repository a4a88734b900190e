-- A run without its lowest ones, and a word without its lowest one: `w & (w - 1)`. Assumes nothing.
use mathlib.Core.Path.{◌≡◌, sym, ap, ap₂, ◌∙◌, subst}
use Prim.Native.Nat.{ℕ, suc, ◌+◌, ◌-◌, ◌*◌, ◌/◌, ◌^◌, ◌≤◌, ◌<◌}
use native.Mathlib.Nat.{le_dest, add-zero, pow-suc, mul-div_cancel, pos_of_ne-zero}
use native.Mathlib.Decide.{dec_lt}
use native.Mathlib.Omega.{arith}
use lib.Dec.{lit<}
use lib.Pow.{pow_pos, high}
use lib.Bits.{bit_and, and_block, and_self, and_zero_l, and_zero_r}
use Rattle.broadword.specs.Bits.{bit, count}
use Rattle.broadword.specs.Places.{select}
use Rattle.broadword.proofs.Count.{bit_le, bit_shift, count_add, count_same, count_zero}
use Rattle.broadword.proofs.Find.{select_at, select_none, select_some}
use Rattle.bit_words.proofs.Runs.{bit_under}
use Rattle.broadword.proofs.Lowest.{odd_times, bit-one, bit_below, short}

-- ---- a run without its ones below s

not_below : {i s : ℕ} → Dec (i < s) → (i < s → ⊥) → s ≤ i
not_below (yes l) h = absurd (h l)
not_below (no l) h = omega arith

module _ (f g : ℕ → ℕ) (s : ℕ) (gone : (j : ℕ) → j < s → g j ≡ 0) (same : (j : ℕ) → f (s + j) ≡ g (s + j)) where
  count_from : (n : ℕ) → s ≤ n → count f n ≡ count f s + count g n
  count_from n h =
      let d = le_dest h in
      let q : count g s ≡ 0 = count_zero g s gone in
      let r = count_add f s d.0 in
      let t = count_add g s d.0 in
      let e = count_same (λ j. f (s + j)) (λ j. g (s + j)) d.0 (λ j _. same j) in
      let u = ap (count f) d.1 in
      let v = ap (count g) d.1 in
      omega arith

  -- the ones of g are the later ones of f
  pub select_from : (n k : ℕ) → s ≤ n → ((i : ℕ) → g i ≤ 1) → select g n k ≡ select f n (count f s + k)
  select_from n k h b = by (dec_lt k (count g n))
    where
      by : Dec (k < count g n) → select g n k ≡ select f n (count f s + k)
      by (yes l) =
          let o = select_some g n k b l in
          let i : ℕ = o.0 in
          let past : s ≤ i = not_below (dec_lt i s) (λ (q : i < s). omega (arith, gone i q, o.1.one)) in
          let d = le_dest past in
          let e : f i ≡ g i = subst (λ (x : ℕ). f x ≡ g x) d.1 (same d.0) in
          select_at g n k i o.1.within o.1.one o.1.before
          ∙ sym (select_at f n (count f s + k) i o.1.within (e ∙ o.1.one) (count_from i past ∙ ap (λ (x : ℕ). count f s + x) o.1.before))
      by (no q) = select_none g n k (omega arith) ∙ sym (select_none f n (count f s + k) (omega (arith, count_from n h)))

-- without its first one, which stands at t
select-past : (f g : ℕ → ℕ) (t : ℕ) → ((j : ℕ) → j < t → f j ≡ 0) → f t ≡ 1 → ((j : ℕ) → j < suc t → g j ≡ 0) → ((j : ℕ) → f (suc t + j) ≡ g (suc t + j)) → (n k : ℕ) → t < n → ((i : ℕ) → g i ≤ 1) → select g n k ≡ select f n (k + 1)
unfolding count
select-past f g t none one gone same n k h b =
    let p : count f (suc t) ≡ 1 = ap₂ (λ (x y : ℕ). x + y) (count_zero f t none) one in
    select_from f g (suc t) gone same n k h b ∙ ap (select f n) (let e : count f (suc t) + k ≡ k + 1 = omega arith in e)

-- ---- a word

even : (a b : ℕ) → (a * 2 + 0) * b + 0 ≡ a * (b * 2)
even a b = omega arith

odd : (a b : ℕ) → (a * 2 + 1) * b ≡ a * (b * 2) + b
odd a b = omega arith

-- the word without its lowest one, as a product
clear_is : (w t m : ℕ) → w ≡ (m * 2 + 1) * 2 ^ t → bit_and w (w - 1) ≡ m * 2 ^ suc t
clear_is w t m e =
    let p = pow_pos t in
    let d : w - 1 ≡ m * 2 * 2 ^ t + (2 ^ t - 1) = omega arith in
    ap₂ bit_and (e ∙ sym (add-zero ((m * 2 + 1) * 2 ^ t))) d
    ∙ and_block t (m * 2 + 1) (m * 2) 0 (2 ^ t - 1) p (omega arith)
    ∙ ap₂ (λ (x y : ℕ). x * 2 ^ t + y)
    (ap (bit_and (m * 2 + 1)) (sym (add-zero (m * 2))) ∙ and_block 1 m m 1 0 (lit< tt) (lit< tt) ∙ ap (λ (x : ℕ). x * 2 + bit_and 1 0) (and_self m))
    (and_zero_l (2 ^ t - 1))
    ∙ ap (λ (x : ℕ). (m * 2 + x) * 2 ^ t + 0) (and_zero_r 1) ∙ even m (2 ^ t) ∙ ap (λ (x : ℕ). m * x) (sym (pow-suc 2 t))

pub select-clear : (w : ℕ) → (w ≡ 0 → ⊥) → w < 2 ^ 64 → (k : ℕ) → select (bit (bit_and w (w - 1))) 64 k ≡ select (bit w) 64 (k + 1)
select-clear w z h k =
    let o = odd_times w (pos_of_ne-zero z) in
    let t : ℕ = o.0 in
    let m : ℕ = o.1 in
    let v : ℕ = m * 2 ^ suc t in
    let high_w : w / 2 ^ suc t ≡ m = ap (λ (x : ℕ). x / 2 ^ suc t) (o.2 ∙ odd m (2 ^ t) ∙ ap (λ (x : ℕ). m * x + 2 ^ t) (sym (pow-suc 2 t))) ∙ high m (suc t) (omega (arith, pow-suc 2 t, pow_pos t)) in
    let high_v : v / 2 ^ suc t ≡ m = mul-div_cancel m (pow_pos (suc t)) in
    ap (λ (x : ℕ). select (bit x) 64 k) (clear_is w t m o.2)
    ∙ select-past (bit w) (bit v) t (bit_below w t m o.2) (bit-one w t m o.2) (bit_under m (suc t))
    (λ j. sym (bit_shift w (suc t) j) ∙ ap (λ (x : ℕ). bit x j) (high_w ∙ sym high_v) ∙ bit_shift v (suc t) j)
    64 k (short w t m o.2 64 h) (bit_le v)
