-- A window of 64 bits over two neighbouring words, and the lowest bits of one. Assumes nothing.
use mathlib.Core.Path.{◌≡◌, sym, ap, ◌∙◌, subst, subst⁻¹}
use mathlib.Core.List.{List}
use mathlib.Core.Bool.{Bool, true, false}
use Prim.Native.Nat.{ℕ, ◌+◌, ◌-◌, ◌*◌, ◌/◌, ◌%◌, ◌^◌, ◌≤◌, ◌<◌}
use native.Mathlib.Nat.{mul-one, mul_comm, mod-eq_of_lt, div-add-mod', mod-lt, div-lt_iff_lt-mul, lt_of_lt_of_le, lt_of_le_of_lt, div-le_self, lt_of_not-le, mul-add-mod_self_right}
use native.Mathlib.Decide.{dec_lt}
use native.Mathlib.Omega.{arith}
use lib.ListN.{get_or, take}
use lib.Arith.{digits_lt, digits_div, digits_mod}
use lib.Pow.{pow_pos, pow-add}
use lib.Bits.{bit_or, or_shifted_r}
use Rattle.broadword.specs.Bits.{bit}
use Rattle.broadword.specs.Fields.{digit, word}
use Rattle.broadword.proofs.Count.{bit-mod, bit_shift}
use Rattle.broadword.proofs.Fields.{digit-word, word-digits, word_lt, word_same}
use Rattle.bit_words.specs.Vector.{bit_at, bit_over, word_over}
use Rattle.bit_words.proofs.Runs.{bit-digit_1, bit_not, bit_at-word, bit_at_le, bit_at-take}

-- a bit of a number that is made of bits
pub number_bit : (f : ℕ → ℕ) (n i : ℕ) → ((j : ℕ) → f j ≤ 1) → i < n → bit (word 1 f n) i ≡ f i
number_bit f n i h l = sym (bit-digit_1 (word 1 f n) i) ∙ digit-word 1 f n (λ j _. omega (arith, h j)) i l

-- the bits of a number from s on, as a number
pub number_bits : (x s n : ℕ) → word 1 (λ i. bit x (s + i)) n ≡ x / 2 ^ s % 2 ^ n
number_bits x s n =
    word_same 1 (λ i. bit x (s + i)) (digit 1 (x / 2 ^ s)) n (λ i _. sym (bit-digit_1 (x / 2 ^ s) i ∙ bit_shift x s i))
    ∙ word-digits 1 n (x / 2 ^ s) ∙ ap (λ (m : ℕ). x / 2 ^ s % 2 ^ m) (mul-one n)

-- the lowest of the bits that a number is made of
number_low : (f : ℕ → ℕ) (n m : ℕ) → ((i : ℕ) → f i ≤ 1) → m ≤ n → word 1 f n % 2 ^ m ≡ word 1 f m
number_low f n m h l =
    ap (λ (k : ℕ). word 1 f n % 2 ^ k) (sym (mul-one m)) ∙ sym (word-digits 1 m (word 1 f n))
    ∙ word_same 1 (digit 1 (word 1 f n)) f m (λ i k. digit-word 1 f n (λ j _. omega (arith, h j)) i (lt_of_lt_of_le k l))

-- a place in two neighbouring words, as one number
pub two-words : (ws : List ℕ) (b t : ℕ) → get_or ws b 0 < 2 ^ 64 → t < 128 → bit_at ws (b * 64 + t) ≡ bit (get_or ws (b + 1) 0 * 2 ^ 64 + get_or ws b 0) t
two-words ws b t h l = go (dec_lt t 64)
  where
    x : ℕ
    x = get_or ws (b + 1) 0 * 2 ^ 64 + get_or ws b 0

    go : Dec (t < 64) → bit_at ws (b * 64 + t) ≡ bit (get_or ws (b + 1) 0 * 2 ^ 64 + get_or ws b 0) t
    go (yes k) =
        bit_at-word ws b t k
        ∙ ap (λ (y : ℕ). bit y t) (sym (digits_mod (get_or ws (b + 1) 0) {m = 2 ^ 64} {r = get_or ws b 0} h))
        ∙ bit-mod (get_or ws (b + 1) 0 * 2 ^ 64 + get_or ws b 0) 64 t k
    go (no g) =
        let u : ℕ = t - 64 in
        let e : b * 64 + t ≡ (b + 1) * 64 + u = let m = lt_of_not-le g in omega arith in
        let d : 64 + u ≡ t = let m = lt_of_not-le g in omega arith in
        ap (bit_at ws) e ∙ bit_at-word ws (b + 1) u (omega arith)
        ∙ ap (λ (y : ℕ). bit y u) (sym (digits_div (get_or ws (b + 1) 0) {m = 2 ^ 64} {r = get_or ws b 0} h))
        ∙ bit_shift (get_or ws (b + 1) 0 * 2 ^ 64 + get_or ws b 0) 64 u ∙ ap (bit (get_or ws (b + 1) 0 * 2 ^ 64 + get_or ws b 0)) d

-- the 64 bits from pos on are a part of the two words that they stand in
pub window_is : (ws : List ℕ) (pos : ℕ) → get_or ws (pos / 64) 0 < 2 ^ 64
    → word 1 (λ i. bit_at ws (pos + i)) 64 ≡ (get_or ws (pos / 64 + 1) 0 * 2 ^ 64 + get_or ws (pos / 64) 0) / 2 ^ (pos % 64) % 2 ^ 64
window_is ws pos h =
    word_same 1 (λ i. bit_at ws (pos + i)) (λ i. bit (get_or ws (pos / 64 + 1) 0 * 2 ^ 64 + get_or ws (pos / 64) 0) (pos % 64 + i)) 64
    (λ i l.
    let e : pos + i ≡ pos / 64 * 64 + (pos % 64 + i) = omega arith in
    ap (bit_at ws) e ∙ two-words ws (pos / 64) (pos % 64 + i) h (omega arith))
    ∙ number_bits (get_or ws (pos / 64 + 1) 0 * 2 ^ 64 + get_or ws (pos / 64) 0) (pos % 64) 64

-- the same by digits: v * (P * Q) + w, from P on
by_parts : (P Q v w : ℕ) → 0 < P → w < P * Q → (v * (P * Q) + w) / P % (P * Q) ≡ v % P * Q + w / P
by_parts P Q v w hP hw =
    let q : w / P < Q = (div-lt_iff_lt-mul hP).1 (subst (λ (y : ℕ). w < y) (mul_comm P Q) hw) in
    let e : v * (P * Q) + w ≡ (v * Q + w / P) * P + w % P = (let d : w ≡ w / P * P + w % P = sym (div-add-mod' w P) in ap (λ (y : ℕ). v * (P * Q) + y) d ∙ (let f : (a b : ℕ) → v * (P * Q) + (a * P + b) ≡ (v * Q + a) * P + b = λ a b. omega arith in f (w / P) (w % P))) in
    let s : (v * (P * Q) + w) / P ≡ v * Q + w / P = ap (λ (y : ℕ). y / P) e ∙ digits_div (v * Q + w / P) (mod-lt w hP) in
    let t : v * Q + w / P ≡ v / P * (P * Q) + (v % P * Q + w / P) = (let d : v ≡ v / P * P + v % P = sym (div-add-mod' v P) in ap (λ (y : ℕ). y * Q + w / P) d ∙ (let f : (a b c : ℕ) → (a * P + b) * Q + c ≡ a * (P * Q) + (b * Q + c) = λ a b c. omega arith in f (v / P) (v % P) (w / P))) in
    ap (λ (y : ℕ). y % (P * Q)) (s ∙ t) ∙ digits_mod (v / P) (digits_lt (mod-lt v hP) q)

module _ (s : ℕ) (h : s ≤ 64) where
  pow_parts : 2 ^ s * 2 ^ (64 - s) ≡ 2 ^ 64
  pow_parts = sym (pow-add 2 s (64 - s)) ∙ ap (λ (y : ℕ). 2 ^ y) (let e : s + (64 - s) ≡ 64 = omega arith in e)

  -- what the program computes of two words
  pub window_or : (v w : ℕ) → w < 2 ^ 64 → bit_or (w / 2 ^ s) ((v * 2 ^ (64 - s)) % 2 ^ 64) ≡ (v * 2 ^ 64 + w) / 2 ^ s % 2 ^ 64
  window_or v w hw =
      let P : ℕ = 2 ^ s in
      let Q : ℕ = 2 ^ (64 - s) in
      let hw' : w < P * Q = subst⁻¹ (λ (y : ℕ). w < y) pow_parts hw in
      let low : w / P < Q = (div-lt_iff_lt-mul (pow_pos s)).1 (subst (λ (y : ℕ). w < y) (mul_comm P Q) hw') in
      let up : (v * Q) % 2 ^ 64 ≡ v % P * Q =
      ap (λ (y : ℕ). (v * Q) % y) (sym pow_parts)
      ∙ ap (λ (y : ℕ). y % (P * Q)) (let d : v ≡ v / P * P + v % P = sym (div-add-mod' v P) in ap (λ (y : ℕ). y * Q) d ∙ (let f : (a b : ℕ) → (a * P + b) * Q ≡ a * (P * Q) + (b * Q + 0) = λ a b. omega arith in f (v / P) (v % P)))
      ∙ digits_mod (v / P) (digits_lt (mod-lt v (pow_pos s)) (pow_pos (64 - s))) ∙ (let f : (a : ℕ) → a + 0 ≡ a = λ a. omega arith in f (v % P * Q)) in
      ap (bit_or (w / P)) up ∙ or_shifted_r (v % P) (64 - s) (w / P) low
      ∙ sym (by_parts P Q v w (pow_pos s) hw')
      ∙ ap (λ (y : ℕ). (v * y + w) / P % y) pow_parts

-- the low part of a product's first factor gives its low part
mod_mul : (a b M : ℕ) → (a % M * b) % M ≡ (a * b) % M
mod_mul a b M =
    let d : (q r : ℕ) → (q * M + r) * b ≡ q * b * M + r * b = λ q r. omega arith in
    sym (ap (λ (x : ℕ). (x * b) % M) (sym (div-add-mod' a M)) ∙ ap (λ (x : ℕ). x % M) (d (a / M) (a % M)) ∙ mul-add-mod_self_right (a / M * b) M (a % M * b))

-- a shift by 64 - s in two steps, neither of which is by 64
pub two_shifts : (v s : ℕ) → s < 64 → ((v * 2) % 2 ^ 64 * 2 ^ (63 - s)) % 2 ^ 64 ≡ (v * 2 ^ (64 - s)) % 2 ^ 64
two_shifts v s h =
    let p : 2 ^ (64 - s) ≡ 2 * 2 ^ (63 - s) = ap (λ (x : ℕ). 2 ^ x) (let e : 64 - s ≡ 1 + (63 - s) = omega arith in e) ∙ pow-add 2 1 (63 - s) in
    let d : (P : ℕ) → v * 2 * P ≡ v * (2 * P) = λ P. omega arith in
    mod_mul (v * 2) (2 ^ (63 - s)) (2 ^ 64) ∙ ap (λ (x : ℕ). x % 2 ^ 64) (d (2 ^ (63 - s)) ∙ ap (λ (x : ℕ). v * x) (sym p))

-- and of the last one
pub window_last : (s w : ℕ) → w < 2 ^ 64 → w / 2 ^ s ≡ (0 * 2 ^ 64 + w) / 2 ^ s % 2 ^ 64
window_last s w h =
    sym (mod-eq_of_lt {n = w / 2 ^ s} {m = 2 ^ 64} (lt_of_le_of_lt (div-le_self w (2 ^ s)) h))
    ∙ ap (λ (y : ℕ). y / 2 ^ s % 2 ^ 64) (let e : w ≡ 0 * 2 ^ 64 + w = omega arith in e)

-- the lowest bits of a window over the first `used` words, which hold them
pub narrowed : (ws : List ℕ) (used pos width : ℕ) → width ≤ 64 → pos + width ≤ used * 64 → word 1 (λ i. bit_at (take used ws) (pos + i)) 64 % 2 ^ width ≡ word 1 (λ i. bit_at ws (pos + i)) width
narrowed ws used pos width h l =
    number_low (λ i. bit_at (take used ws) (pos + i)) 64 width (λ i. bit_at_le (take used ws) (pos + i)) h
    ∙ word_same 1 (λ i. bit_at (take used ws) (pos + i)) (λ i. bit_at ws (pos + i)) width (λ i k. bit_at-take used ws (pos + i) (omega arith))

-- a bit of the window over the first `used` words, and of that over their ones or zeros
pub window_at : (ws : List ℕ) (used pos j : ℕ) → j < 64 → pos + j < used * 64 → bit (word 1 (λ i. bit_at (take used ws) (pos + i)) 64) j ≡ bit_at ws (pos + j)
window_at ws used pos j l u = number_bit (λ i. bit_at (take used ws) (pos + i)) 64 j (λ i. bit_at_le (take used ws) (pos + i)) l ∙ bit_at-take used ws (pos + j) u

pub window_bit : (b : Bool) (ws : List ℕ) (used pos j : ℕ) → j < 64 → pos + j < used * 64 → bit (word_over b (word 1 (λ i. bit_at (take used ws) (pos + i)) 64)) j ≡ bit_over b ws (pos + j)
unfolding bit_over
window_bit true ws used pos j l u = window_at ws used pos j l u
window_bit false ws used pos j l u =
    bit_not (word 1 (λ i. bit_at (take used ws) (pos + i)) 64) j (word_lt 1 (λ i. bit_at (take used ws) (pos + i)) 64 (λ i _. omega (arith, bit_at_le (take used ws) (pos + i)))) l
    ∙ ap (λ (y : ℕ). 1 - y) (window_at ws used pos j l u)
