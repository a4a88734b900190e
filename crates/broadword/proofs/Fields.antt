-- A word by its fields: an operation on words is the operation on each field, where no field overflows. Assumes nothing.
use mathlib.Core.Path.{◌≡◌, refl, sym, ap, ap₂, ◌∙◌, subst}
use Prim.Native.Nat.{ℕ, zero, suc, ◌+◌, ◌-◌, ◌*◌, ◌/◌, ◌%◌, ◌^◌, ◌≤◌, ◌<◌, suc-le-suc}
use native.Mathlib.Nat.{not-suc-le-zero, le_of_suc-le-suc, zero-lt-suc, add_comm, mul_assoc, suc-mul, mod-lt, mod-one, zero-div, mul-div_cancel, mul-add-div_right, mul-add-mod_self_right, sub-add_cancel, mod-eq_of_lt, zero-mul, div-one, le_refl, add-le-add, mul-le-mul_right}
use native.Mathlib.Omega.{arith}
use lib.Arith.{digits_lt, digits_div, digits_mod}
use lib.Dec.{lit<}
use lib.Pow.{pow_pos, pow-add, mod-pow-add, shr-shr, shr_mod, split}
use lib.Bits.{bit_and, bit_or, bit_xor, and_block, and_mask, or_block, xor_block}
use Rattle.broadword.specs.Fields.{digit, word}

pub digit_lt : (k x i : ℕ) → digit k x i < 2 ^ k
unfolding digit
digit_lt k x zero = mod-lt x (pow_pos k)
digit_lt k x (suc i) = digit_lt k (x / 2 ^ k) i

pub digit_is : (k x i : ℕ) → digit k x i ≡ x / 2 ^ (i * k) % 2 ^ k
unfolding digit
digit_is k x zero = rw (zero-mul k) (ap (λ (y : ℕ). y % 2 ^ k) (sym (div-one x)))
digit_is k x (suc i) =
    digit_is k (x / 2 ^ k) i
    ∙ ap (λ (y : ℕ). y % 2 ^ k) (shr-shr x k (i * k) ∙ ap (λ (y : ℕ). x / 2 ^ y) (add_comm k (i * k) ∙ sym (suc-mul i k)))

pub word_same : (k : ℕ) (f g : ℕ → ℕ) (n : ℕ) → ((i : ℕ) → i < n → f i ≡ g i) → word k f n ≡ word k g n
unfolding word
word_same k f g zero h = refl
word_same k f g (suc n) h =
    ap₂ (λ (x y : ℕ). x * 2 ^ k + y) (word_same k (λ i. f (suc i)) (λ i. g (suc i)) n (λ i l. h (suc i) (suc-le-suc l))) (h zero (zero-lt-suc n))

pub word_lt : (k : ℕ) (f : ℕ → ℕ) (n : ℕ) → ((i : ℕ) → i < n → f i < 2 ^ k) → word k f n < 2 ^ (n * k)
unfolding word
word_lt k f zero h = rw (zero-mul k) (zero-lt-suc 0)
word_lt k f (suc n) h =
    subst (λ (y : ℕ). word k f (suc n) < y) (sym (pow-add 2 (n * k) k) ∙ ap (λ (y : ℕ). 2 ^ y) (sym (suc-mul n k)))
    (digits_lt (word_lt k (λ i. f (suc i)) n (λ i l. h (suc i) (suc-le-suc l))) (h zero (zero-lt-suc n)))

-- a number is the word of its fields
pub word-digits : (k n x : ℕ) → word k (digit k x) n ≡ x % 2 ^ (n * k)
unfolding word digit
word-digits k zero x = rw (zero-mul k) (sym (mod-one x))
word-digits k (suc n) x =
    ap (λ (y : ℕ). y * 2 ^ k + x % 2 ^ k) (word-digits k n (x / 2 ^ k)) ∙ sym (mod-pow-add x (n * k) k) ∙ ap (λ (y : ℕ). x % 2 ^ y) (sym (suc-mul n k))

-- and its fields are those that it is made of
pub digit-word : (k : ℕ) (f : ℕ → ℕ) (n : ℕ) → ((i : ℕ) → i < n → f i < 2 ^ k) → (i : ℕ) → i < n → digit k (word k f n) i ≡ f i
unfolding word digit
digit-word k f zero h i l = absurd (not-suc-le-zero l)
digit-word k f (suc n) h zero l = digits_mod (word k (λ i. f (suc i)) n) (h zero l)
digit-word k f (suc n) h (suc i) l =
    ap (λ (y : ℕ). digit k y i) (digits_div (word k (λ i. f (suc i)) n) (h zero (zero-lt-suc n)))
    ∙ digit-word k (λ i. f (suc i)) n (λ i l. h (suc i) (suc-le-suc l)) i (le_of_suc-le-suc l)

pub word_add : (k : ℕ) (f g : ℕ → ℕ) (n : ℕ) → word k f n + word k g n ≡ word k (λ i. f i + g i) n
unfolding word
word_add k f g zero = refl
word_add k f g (suc n) =
    let e = word_add k (λ i. f (suc i)) (λ i. g (suc i)) n in
    let d : (word k (λ i. f (suc i)) n * 2 ^ k + f zero) + (word k (λ i. g (suc i)) n * 2 ^ k + g zero) ≡ (word k (λ i. f (suc i)) n + word k (λ i. g (suc i)) n) * 2 ^ k + (f zero + g zero) = omega arith in
    d ∙ ap (λ (y : ℕ). y * 2 ^ k + (f zero + g zero)) e

pub word_mul : (k c : ℕ) (f : ℕ → ℕ) (n : ℕ) → word k f n * c ≡ word k (λ i. f i * c) n
unfolding word
word_mul k c f zero = zero-mul c
word_mul k c f (suc n) =
    let e = word_mul k c (λ i. f (suc i)) n in
    let d : (word k (λ i. f (suc i)) n * 2 ^ k + f zero) * c ≡ word k (λ i. f (suc i)) n * c * 2 ^ k + f zero * c = omega arith in
    d ∙ ap (λ (y : ℕ). y * 2 ^ k + f zero * c) e

pub word-sub : (k : ℕ) (f g : ℕ → ℕ) (n : ℕ) → ((i : ℕ) → i < n → g i ≤ f i) → word k f n - word k g n ≡ word k (λ i. f i - g i) n
word-sub k f g n h =
    let e : word k (λ i. f i - g i) n + word k g n ≡ word k f n = word_add k (λ i. f i - g i) g n ∙ word_same k (λ i. f i - g i + g i) f n (λ i l. sub-add_cancel (h i l)) in
    omega arith

pub word_and : (k : ℕ) (f g : ℕ → ℕ) (n : ℕ) → ((i : ℕ) → i < n → f i < 2 ^ k) → ((i : ℕ) → i < n → g i < 2 ^ k) → bit_and (word k f n) (word k g n) ≡ word k (λ i. bit_and (f i) (g i)) n
unfolding word
word_and k f g zero hf hg = refl
word_and k f g (suc n) hf hg =
    and_block k (word k (λ i. f (suc i)) n) (word k (λ i. g (suc i)) n) (f zero) (g zero) (hf zero (zero-lt-suc n)) (hg zero (zero-lt-suc n))
    ∙ ap (λ (y : ℕ). y * 2 ^ k + bit_and (f zero) (g zero))
    (word_and k (λ i. f (suc i)) (λ i. g (suc i)) n (λ i l. hf (suc i) (suc-le-suc l)) (λ i l. hg (suc i) (suc-le-suc l)))

pub word_or : (k : ℕ) (f g : ℕ → ℕ) (n : ℕ) → ((i : ℕ) → i < n → f i < 2 ^ k) → ((i : ℕ) → i < n → g i < 2 ^ k) → bit_or (word k f n) (word k g n) ≡ word k (λ i. bit_or (f i) (g i)) n
unfolding word
word_or k f g zero hf hg = refl
word_or k f g (suc n) hf hg =
    or_block k (word k (λ i. f (suc i)) n) (word k (λ i. g (suc i)) n) (f zero) (g zero) (hf zero (zero-lt-suc n)) (hg zero (zero-lt-suc n))
    ∙ ap (λ (y : ℕ). y * 2 ^ k + bit_or (f zero) (g zero))
    (word_or k (λ i. f (suc i)) (λ i. g (suc i)) n (λ i l. hf (suc i) (suc-le-suc l)) (λ i l. hg (suc i) (suc-le-suc l)))

-- a shift that no field's bit leaves
pub word_shr_exact : (k s : ℕ) (f g : ℕ → ℕ) (n : ℕ) → ((i : ℕ) → i < n → f i ≡ g i * 2 ^ s) → word k f n / 2 ^ s ≡ word k g n
word_shr_exact k s f g n h =
    ap (λ (y : ℕ). y / 2 ^ s) (word_same k f (λ i. g i * 2 ^ s) n h ∙ sym (word_mul k (2 ^ s) g n)) ∙ mul-div_cancel (word k g n) (pow_pos s)

-- the low bits of a word are those of its lowest field
word_mod : (d s : ℕ) (f : ℕ → ℕ) (n : ℕ) → f n ≡ 0 → word (d + s) f n % 2 ^ s ≡ f zero % 2 ^ s
unfolding word
word_mod d s f zero z = ap (λ (y : ℕ). y % 2 ^ s) (sym z)
word_mod d s f (suc n) z =
    let w : ℕ = word (d + s) (λ i. f (suc i)) n in
    ap (λ (y : ℕ). (w * y + f zero) % 2 ^ s) (pow-add 2 d s)
    ∙ ap (λ (y : ℕ). (y + f zero) % 2 ^ s) (sym (mul_assoc w (2 ^ d) (2 ^ s)))
    ∙ mul-add-mod_self_right (w * 2 ^ d) (2 ^ s) (f zero)

-- a shift by s: each field, and the s low bits of the next above it
pub word_shr : (d s : ℕ) (f : ℕ → ℕ) (n : ℕ) → f n ≡ 0 → word (d + s) f n / 2 ^ s ≡ word (d + s) (λ i. f i / 2 ^ s + f (suc i) % 2 ^ s * 2 ^ d) n
unfolding word
word_shr d s f zero z = zero-div (2 ^ s)
word_shr d s f (suc n) z =
    let w : ℕ = word (d + s) (λ i. f (suc i)) n in
    let p : 2 ^ (d + s) ≡ 2 ^ d * 2 ^ s = pow-add 2 d s in
    let q : w / 2 ^ s * 2 ^ s + w % 2 ^ s ≡ w = split w s in
    let m : w % 2 ^ s ≡ f 1 % 2 ^ s = word_mod d s (λ i. f (suc i)) n z in
    ap (λ (y : ℕ). (w * y + f zero) / 2 ^ s) p
    ∙ ap (λ (y : ℕ). (y + f zero) / 2 ^ s) (sym (mul_assoc w (2 ^ d) (2 ^ s)))
    ∙ mul-add-div_right (pow_pos s) (w * 2 ^ d) (f zero)
    ∙ ap (λ (y : ℕ). y * 2 ^ d + f zero / 2 ^ s) (sym q)
    ∙ ap (λ (y : ℕ). (w / 2 ^ s * 2 ^ s + y) * 2 ^ d + f zero / 2 ^ s) m
    ∙ regroup (w / 2 ^ s) (2 ^ s) (2 ^ d) (f 1 % 2 ^ s) (f zero / 2 ^ s)
    ∙ ap (λ (y : ℕ). w / 2 ^ s * y + (f zero / 2 ^ s + f 1 % 2 ^ s * 2 ^ d)) (sym p)
    ∙ ap (λ (y : ℕ). y * 2 ^ (d + s) + (f zero / 2 ^ s + f 1 % 2 ^ s * 2 ^ d)) (word_shr d s (λ i. f (suc i)) n z)
  where
    regroup : (a b c e g : ℕ) → (a * b + e) * c + g ≡ a * (c * b) + (g + e * c)
    regroup a b c e g = omega arith

-- ---- words of 64 bits by their bytes

pub bytes : (x : ℕ) → x < 2 ^ 64 → x ≡ word 8 (digit 8 x) 8
bytes x h = sym (word-digits 8 8 x ∙ mod-eq_of_lt {n = x} {m = 2 ^ 64} h)

pub top_byte : (f : ℕ → ℕ) → ((i : ℕ) → i < 8 → f i < 256) → word 8 f 8 / 2 ^ 56 ≡ f 7
top_byte f h =
    let y : ℕ = word 8 f 8 in
    sym (shr_mod {n = y} 8 56 (word_lt 8 f 8 h)) ∙ sym (digit_is 8 y 7) ∙ digit-word 8 f 8 h 7 (lit< tt)

-- the fields of the low part of a number
pub digit-mod : (k n y j : ℕ) → j < n → digit k (y % 2 ^ (n * k)) j ≡ digit k y j
digit-mod k n y j l = ap (λ (z : ℕ). digit k z j) (sym (word-digits k n y)) ∙ digit-word k (digit k y) n (λ i _. digit_lt k y i) j l

-- the byte j, as a program takes it
pub byte_at : (y p j : ℕ) → p ≡ j * 8 → bit_and (y / 2 ^ p) 0xff ≡ digit 8 y j
byte_at y p j e = and_mask (y / 2 ^ p) 8 ∙ ap (λ (q : ℕ). y / 2 ^ q % 2 ^ 8) e ∙ sym (digit_is 8 y j)

-- a mask with one byte in every place, on a word
pub masked : (f : ℕ → ℕ) (m M : ℕ) → word 8 (λ i. m) 8 ≡ M → m < 256 → ((i : ℕ) → i < 8 → f i < 256) → bit_and (word 8 f 8) M ≡ word 8 (λ i. bit_and (f i) m) 8
masked f m M e l h = ap (bit_and (word 8 f 8)) (sym e) ∙ word_and 8 f (λ i. m) 8 h (λ i _. l)

pub word_mono : (k : ℕ) (f g : ℕ → ℕ) (n : ℕ) → ((i : ℕ) → i < n → f i ≤ g i) → word k f n ≤ word k g n
unfolding word
word_mono k f g zero h = le_refl zero
word_mono k f g (suc n) h =
    add-le-add (mul-le-mul_right (2 ^ k) (word_mono k (λ i. f (suc i)) (λ i. g (suc i)) n (λ i l. h (suc i) (suc-le-suc l)))) (h zero (zero-lt-suc n))

pub word_xor : (k : ℕ) (f g : ℕ → ℕ) (n : ℕ) → ((i : ℕ) → i < n → f i < 2 ^ k) → ((i : ℕ) → i < n → g i < 2 ^ k) → bit_xor (word k f n) (word k g n) ≡ word k (λ i. bit_xor (f i) (g i)) n
unfolding word
word_xor k f g zero hf hg = refl
word_xor k f g (suc n) hf hg =
    xor_block k (word k (λ i. f (suc i)) n) (word k (λ i. g (suc i)) n) (f zero) (g zero) (hf zero (zero-lt-suc n)) (hg zero (zero-lt-suc n))
    ∙ ap (λ (y : ℕ). y * 2 ^ k + bit_xor (f zero) (g zero))
    (word_xor k (λ i. f (suc i)) (λ i. g (suc i)) n (λ i l. hf (suc i) (suc-le-suc l)) (λ i l. hg (suc i) (suc-le-suc l)))

-- the highest field, if it is zero, may go
pub word_top : (k : ℕ) (f : ℕ → ℕ) (n : ℕ) → f n ≡ 0 → word k f (suc n) ≡ word k f n
unfolding word
word_top k f zero z = omega arith
word_top k f (suc n) z = ap (λ (y : ℕ). y * 2 ^ k + f zero) (word_top k (λ i. f (suc i)) n z)
