-- Laws of `bit` and `count`. Assumes nothing.
use mathlib.Core.Path.{◌≡◌, refl, sym, ap, ap₂, ◌∙◌}
use Prim.Native.Nat.{ℕ, zero, suc, ◌+◌, ◌*◌, ◌/◌, ◌%◌, ◌^◌, ◌≤◌, ◌<◌, zero-le}
use native.Mathlib.Nat.{le_refl, lt-suc_self, le_step, add-suc, add-zero, add_comm, add_assoc, div-div-eq-div-mul, pow-suc, pow-succ', div-eq_of_lt, div-one, le_dest, not-suc-le-zero, zero-mul, suc-mul}
use native.Mathlib.Decide.{le_ind}
use native.Mathlib.Omega.{arith}
use lib.Count as digits
use lib.Count.{ones_step, ones-ones}
use lib.Pow.{shr-shr, field, mod-mod-pow}
use Rattle.broadword.specs.Fields.{digit}
use Rattle.broadword.specs.Bits.{bit, count, ones}
use Rattle.broadword.proofs.Fields.{digit_is}

pub bit_le : (w i : ℕ) → bit w i ≤ 1
unfolding bit
bit_le w i = omega arith

-- no bits above the highest
pub bit-above : (w i : ℕ) → w < 2 ^ i → bit w i ≡ 0
unfolding bit
bit-above w i h = rw (div-eq_of_lt h)

pub bit_low : (w : ℕ) → bit w 0 ≡ w % 2
unfolding bit
bit_low w = ap (λ (x : ℕ). x % 2) (div-one w)

pub bit_half : (w i : ℕ) → bit w (suc i) ≡ bit (w / 2) i
unfolding bit
bit_half w i = ap (λ (x : ℕ). w / x % 2) (pow-succ' 2 i) ∙ ap (λ (x : ℕ). x % 2) (sym (div-div-eq-div-mul w 2 (2 ^ i)))

-- the ones below n are no more than the ones below m, where n ≤ m
pub count_mono : (f : ℕ → ℕ) (n m : ℕ) → n ≤ m → count f n ≤ count f m
unfolding count
count_mono f n m h = le_ind (λ (k : ℕ). count f n ≤ count f k) (le_refl (count f n)) (λ k l e. omega arith) m h

-- two runs that agree have the same count
pub count_same : (f g : ℕ → ℕ) (n : ℕ) → ((i : ℕ) → i < n → f i ≡ g i) → count f n ≡ count g n
unfolding count
count_same f g zero h = refl
count_same f g (suc n) h = ap₂ (λ (x y : ℕ). x + y) (count_same f g n (λ i l. h i (le_step l))) (h n (lt-suc_self n))

pub count_zero : (f : ℕ → ℕ) (n : ℕ) → ((i : ℕ) → i < n → f i ≡ 0) → count f n ≡ 0
unfolding count
count_zero f zero h = refl
count_zero f (suc n) h = ap₂ (λ (x y : ℕ). x + y) (count_zero f n (λ i l. h i (le_step l))) (h n (lt-suc_self n))

-- a count in two parts
pub count_add : (f : ℕ → ℕ) (n m : ℕ) → count f (n + m) ≡ count f n + count (λ i. f (n + i)) m
unfolding count
count_add f n zero = rw (add-zero n) (sym (add-zero (count f n)))
count_add f n (suc m) =
    ap (count f) (add-suc n m) ∙ ap (λ (x : ℕ). x + f (n + m)) (count_add f n m) ∙ add_assoc (count f n) (count (λ i. f (n + i)) m) (f (n + m))

pub count_le : (f : ℕ → ℕ) (n : ℕ) → ((i : ℕ) → f i ≤ 1) → count f n ≤ n
unfolding count
count_le f zero h = zero-le
count_le f (suc n) h = omega (arith, count_le f n h, h n)

-- the first place, and the rest
pub count_first : (f : ℕ → ℕ) (n : ℕ) → count f (suc n) ≡ f zero + count (λ i. f (suc i)) n
unfolding count
count_first f zero = add_comm zero (f zero)
count_first f (suc n) = ap (λ (x : ℕ). x + f (suc n)) (count_first f n) ∙ add_assoc (f zero) (count (λ i. f (suc i)) n) (f (suc n))

-- the language's count of ones, which takes the digits lowest first
pub count_ones : (n x : ℕ) → x < 2 ^ n → digits.ones x ≡ ones x n
unfolding count
count_ones zero x h = let e : x ≡ 0 = omega arith in ap digits.ones e ∙ ones-ones 0
count_ones (suc n) x h =
    let p = pow-suc 2 n in
    ones_step x
    ∙ ap₂ (λ (y z : ℕ). y + z) (sym (bit_low x)) (count_ones n (x / 2) (omega arith) ∙ count_same (bit (x / 2)) (λ i. bit x (suc i)) n (λ i _. sym (bit_half x i)))
    ∙ sym (count_first (bit x) n)

-- ---- the bits of a field

pub bit_shift : (x s j : ℕ) → bit (x / 2 ^ s) j ≡ bit x (s + j)
unfolding bit
bit_shift x s j = ap (λ (y : ℕ). y % 2) (shr-shr x s j)

pub bit-mod : (x k j : ℕ) → j < k → bit (x % 2 ^ k) j ≡ bit x j
unfolding bit
bit-mod x k j h =
    let d = le_dest h in
    let e : k ≡ d.0 + 1 + j = omega (arith, d.1) in
    ap (λ (y : ℕ). x % 2 ^ y / 2 ^ j % 2) e ∙ ap (λ (y : ℕ). y % 2) (field x (d.0 + 1) j) ∙ mod-mod-pow (x / 2 ^ j) d.0 1

-- the ones of a word, field by field
pub count-fields : (k n x : ℕ) → count (bit x) (n * k) ≡ count (λ i. ones (digit k x i) k) n
unfolding digit
count-fields k zero x = rw (zero-mul k) (count_zero (bit x) 0 (λ i l. absurd (not-suc-le-zero l)) ∙ sym (count_zero (λ i. ones (digit k x i) k) 0 (λ i l. absurd (not-suc-le-zero l))))
count-fields k (suc n) x =
    ap (count (bit x)) (suc-mul n k ∙ add_comm (n * k) k)
    ∙ count_add (bit x) k (n * k)
    ∙ ap₂ (λ (p q : ℕ). p + q)
    (count_same (bit x) (bit (x % 2 ^ k)) k (λ i l. sym (bit-mod x k i l)))
    (count_same (λ i. bit x (k + i)) (bit (x / 2 ^ k)) (n * k) (λ i l. sym (bit_shift x k i)) ∙ count-fields k n (x / 2 ^ k))
    ∙ sym (count_first (λ i. ones (digit k x i) k) n)

pub bit-digit : (k x i j : ℕ) → j < k → bit (digit k x i) j ≡ bit x (i * k + j)
bit-digit k x i j h = ap (λ (y : ℕ). bit y j) (digit_is k x i) ∙ bit-mod (x / 2 ^ (i * k)) k j h ∙ bit_shift x (i * k) j
