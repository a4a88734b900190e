-- The lowest one of a number: n is odd times 2 ^ t. `x & -x` is 2 ^ t. Assumes nothing.
use Rattle.std.specs.Prelude.{Some, None}
use mathlib.Core.Path.{◌≡◌, sym, ap, ap₂, ◌∙◌}
use Prim.Native.Nat.{ℕ, zero, suc, ◌+◌, ◌-◌, ◌*◌, ◌/◌, ◌%◌, ◌^◌, ◌≤◌, ◌<◌, min}
use native.Mathlib.Nat.{not-suc-le-zero, le_dest, pos_of_ne-zero, mul-one, mul_assoc, pow-suc, add-zero, lt_of_mul-lt-mul_right, mul-div_cancel, lt_of_le_of_lt, le_trans, le_of_eq, lt_of_not-le, not-le_of_lt, one-mul, mul-le-mul_right, add-mul}
use native.Mathlib.Decide.{ℕ_discrete}
use native.Mathlib.Omega.{arith}
use lib.Arith.{bin_ind}
use lib.Dec.{lit<}
use lib.Pow.{pow_pos, pow-add, pow_mono}
use lib.Bits.{bit_and, and_step, and_block}
use Rattle.broadword.specs.Bits.{bit, count}
use Rattle.broadword.specs.Places.{select}
use Rattle.broadword.proofs.Count.{count_zero, bit-above}
use Rattle.broadword.proofs.Find.{select_at, select_none}

abbrev pub Odd_times : ℕ → Type 0
Odd_times n = (t : ℕ) × (m : ℕ) × (n ≡ (m * 2 + 1) * 2 ^ t)

pub odd_times : (n : ℕ) → 0 < n → Odd_times n
odd_times = bin_ind (λ (n : ℕ). 0 < n → Odd_times n) (λ h. absurd (not-suc-le-zero h)) (λ n ih h. by_low n h ih (ℕ_discrete (n % 2) 1))
  where
    by_low : (n : ℕ) → 0 < n → (0 < n / 2 → Odd_times (n / 2)) → Dec (n % 2 ≡ 1) → Odd_times n
    by_low n h ih (yes p) = let e : n ≡ n / 2 * 2 + 1 = omega arith in (0, n / 2, e ∙ sym (mul-one (n / 2 * 2 + 1)))
    by_low n h ih (no q) =
        let s = ih (omega arith) in
        let e : n ≡ n / 2 * 2 = omega arith in
        (suc s.0, s.1, e ∙ ap (λ (x : ℕ). x * 2) s.2 ∙ mul_assoc (s.1 * 2 + 1) (2 ^ s.0) 2 ∙ ap (λ (x : ℕ). (s.1 * 2 + 1) * x) (sym (pow-suc 2 s.0)))

-- a number and its complement have no one in common
pub and_comp : (k m : ℕ) → m < 2 ^ k → bit_and m (2 ^ k - 1 - m) ≡ 0
and_comp zero m h = let e : m ≡ 0 = omega arith in ap (λ (x : ℕ). bit_and x (2 ^ 0 - 1 - x)) e
and_comp (suc k) m h =
    let e = pow-suc 2 k in
    let half : (2 ^ suc k - 1 - m) / 2 ≡ 2 ^ k - 1 - m / 2 = omega arith in
    let low : min (m % 2) ((2 ^ suc k - 1 - m) % 2) ≡ 0 = omega arith in
    and_step m (2 ^ suc k - 1 - m) ∙ ap₂ (λ (x y : ℕ). bit_and (m / 2) x * 2 + y) half low
    ∙ ap (λ (x : ℕ). x * 2 + 0) (and_comp k (m / 2) (omega arith))

module _ (x t m : ℕ) (e : x ≡ (m * 2 + 1) * 2 ^ t) where
  pub pow_le : 2 ^ t ≤ x
  pow_le = le_trans (le_of_eq (sym (one-mul (2 ^ t)))) (le_trans (mul-le-mul_right (2 ^ t) (omega arith)) (le_of_eq (sym e)))

  pub short : (k : ℕ) → x < 2 ^ k → t < k
  short k h = lt_of_not-le (λ g. not-le_of_lt (lt_of_le_of_lt pow_le h) (pow_mono g))

  pub bit-one : bit x t ≡ 1
  unfolding bit
  bit-one =
      let d : x / 2 ^ t ≡ m * 2 + 1 = ap (λ (y : ℕ). y / 2 ^ t) e ∙ mul-div_cancel (m * 2 + 1) (pow_pos t) in
      omega arith

  pub bit_below : (i : ℕ) → i < t → bit x i ≡ 0
  unfolding bit
  bit_below i h =
      let d = le_dest h in
      let p : 2 ^ t ≡ 2 ^ d.0 * 2 * 2 ^ i = ap (λ (y : ℕ). 2 ^ y) (let q : t ≡ suc d.0 + i = omega (arith, d.1) in q) ∙ pow-add 2 (suc d.0) i ∙ ap (λ (y : ℕ). y * 2 ^ i) (pow-suc 2 d.0) in
      let s : x ≡ (m * 2 + 1) * 2 ^ d.0 * 2 * 2 ^ i = e ∙ ap (λ (y : ℕ). (m * 2 + 1) * y) p ∙ simp mul_assoc in
      let r : x / 2 ^ i ≡ (m * 2 + 1) * 2 ^ d.0 * 2 = ap (λ (y : ℕ). y / 2 ^ i) s ∙ mul-div_cancel ((m * 2 + 1) * 2 ^ d.0 * 2) (pow_pos i) in
      omega arith

  pub none_below : count (bit x) t ≡ 0
  none_below = count_zero (bit x) t bit_below

  -- x & -x, at k bits more than t
  pub lowest_one : (k : ℕ) → suc k + t ≡ 64 → x < 2 ^ 64 → bit_and x (2 ^ 64 - x) ≡ 2 ^ t
  lowest_one k ek h =
      let N : ℕ = 2 ^ k in
      let p : 2 ^ 64 ≡ N * 2 * 2 ^ t = ap (λ (y : ℕ). 2 ^ y) (sym ek) ∙ pow-add 2 (suc k) t ∙ ap (λ (y : ℕ). y * 2 ^ t) (pow-suc 2 k) in
      let l : m * 2 + 1 < N * 2 = lt_of_mul-lt-mul_right (2 ^ t) (rw (← p, ← e) h) in
      let d : ℕ = N - 1 - m in
      let c : N * 2 ≡ (d * 2 + 1) + (m * 2 + 1) = omega arith in
      let q : 2 ^ 64 ≡ (d * 2 + 1) * 2 ^ t + x = p ∙ ap (λ (y : ℕ). y * 2 ^ t) c ∙ add-mul (d * 2 + 1) (m * 2 + 1) (2 ^ t) ∙ ap (λ (y : ℕ). (d * 2 + 1) * 2 ^ t + y) (sym e) in
      let g : 2 ^ 64 - x ≡ (d * 2 + 1) * 2 ^ t = omega arith in
      ap₂ bit_and (e ∙ sym (add-zero ((m * 2 + 1) * 2 ^ t))) (g ∙ sym (add-zero ((d * 2 + 1) * 2 ^ t)))
      ∙ and_block t (m * 2 + 1) (d * 2 + 1) 0 0 (pow_pos t) (pow_pos t)
      ∙ add-zero (bit_and (m * 2 + 1) (d * 2 + 1) * 2 ^ t)
      ∙ ap (λ (y : ℕ). y * 2 ^ t) (and_block 1 m d 1 1 (lit< tt) (lit< tt) ∙ ap (λ (y : ℕ). y * 2 + 1) (and_comp k m (omega arith)))
      ∙ one-mul (2 ^ t)

-- ---- there is a lowest one exactly in a word that is not 0

pub zero_none : (x : ℕ) → x ≡ 0 → select (bit x) 64 0 ≡ None
zero_none x e =
    ap (λ (y : ℕ). select (bit y) 64 0) e ∙ select_none (bit 0) 64 0 (le_of_eq (count_zero (bit 0) 64 (λ i _. bit-above 0 i (pow_pos i))))

pub at_some : (x t : ℕ) → select (bit x) 64 0 ≡ Some t → x ≡ 0 → ⊥
at_some x t s e = let n : select (bit x) 64 0 ≡ None = zero_none x e in let z : ◌≡◌ {A = ℕ} 0 1 = cc in omega arith

pub none_zero : (x : ℕ) → x < 2 ^ 64 → select (bit x) 64 0 ≡ None → x ≡ 0
none_zero x h n = go (ℕ_discrete x 0)
  where
    found : (x ≡ 0 → ⊥) → x ≡ 0
    found z =
        let o = odd_times x (pos_of_ne-zero z) in
        let a : select (bit x) 64 0 ≡ Some o.0 = select_at (bit x) 64 0 o.0 (short x o.0 o.1 o.2 64 h) (bit-one x o.0 o.1 o.2) (none_below x o.0 o.1 o.2) in
        let c : ◌≡◌ {A = ℕ} 0 1 = cc in
        omega arith

    go : Dec (x ≡ 0) → x ≡ 0
    go (yes e) = e
    go (no z) = found z
