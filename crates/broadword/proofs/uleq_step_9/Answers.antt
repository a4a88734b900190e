-- `broadword::uleq_step_9` meets its contract, field by field: the top bit of 256 + (y mod 256) - (x mod 256) says how the low bits compare, and
-- the two top bits say the rest. A word is taken as eight fields here, since bit 63 is a field of its own.
-- Assumes nothing.
use borrow.Author.Tests.{lt-ltb, le-ltb, le-leb, lt-leb}
use mathlib.Core.Path.{◌≡◌, refl, sym, ap, ap₂, ◌∙◌, subst⁻¹}
use mathlib.Core.Bool.{Bool, cond}
use mathlib.Core.Logic.{⊎_elim}
use Prim.Native.Nat.{ℕ, ◌+◌, ◌-◌, ◌*◌, ◌/◌, ◌%◌, ◌^◌, ◌≤◌, ◌<◌, zero-le}
use native.Mathlib.Nat.{eq-or-lt_of_le, le_of_suc-le-suc, le_trans, le_of_eq, lt_of_lt_of_le, lt_of_le_of_lt, lt_of_not-le, mod-lt, mod-eq_of_lt, div-eq_of_lt, sub-le}
use native.Mathlib.Decide.{dec_le, dec_lt}
use native.Mathlib.Omega.{arith}
use lib.Dec.{leb, ltb, lit<, lit≤}
use lib.Pow.{pow_pos, split}
use lib.Bits.{bit_and, bit_or, bit_xor, and_high, and_mask, and_le_l, and_le_r, and_lt, and_zero_r, or_lt, or_block, or_zero_r, xor_lt, and_shr, or_shr, xor_shr}
use Rattle.broadword.specs.Fields.{digit, word, flag}
use Rattle.broadword.proofs.Fields.{digit_lt, digit_is, word-digits, word_mono, word_same, word_top, word-sub, word_and, word_or, word_xor, word_shr_exact}
use Rattle.broadword.proofs.Table.{each_eq}
use Rattle.broadword.proofs.uleq_step_9.Goals as goal

-- ---- one field

-- the top bits: from those of x and y, and from how their low bits compare
abbrev tops : ℕ → ℕ → ℕ → ℕ
tops p q w = bit_xor (bit_or w (bit_xor p q)) (bit_and p (1 - q)) % 2

abbrev chosen : ℕ → ℕ → ℕ → ℕ
chosen p q w = cond (ltb p q) 1 (cond (ltb q p) 0 w)

eight : (n : ℕ) → n < 8 → tops (n / 4) (n / 2 % 2) (n % 2) ≡ chosen (n / 4) (n / 2 % 2) (n % 2)
eight = each_eq (λ n. tops (n / 4) (n / 2 % 2) (n % 2)) (λ n. chosen (n / 4) (n / 2 % 2) (n % 2)) 8 tt

tops_are : (p q w : ℕ) → p < 2 → q < 2 → w < 2 → tops p q w ≡ chosen p q w
tops_are p q w hp hq hw =
    let n : ℕ = p * 4 + q * 2 + w in
    let e₁ : n / 4 ≡ p = omega arith in
    let e₂ : n / 2 % 2 ≡ q = omega arith in
    let e₃ : n % 2 ≡ w = omega arith in
    (λ i. tops (sym e₁ i) (sym e₂ i) (sym e₃ i)) ∙ eight n (omega arith) ∙ (λ i. chosen (e₁ i) (e₂ i) (e₃ i))

-- 256 + the low bits
or_top : (b : ℕ) → b < 512 → bit_or b 256 ≡ 256 + b % 256
or_top b h =
    ap (λ (y : ℕ). bit_or y 256) (sym (split b 8))
    ∙ or_block 8 (b / 2 ^ 8) 1 (b % 2 ^ 8) 0 (mod-lt b (pow_pos 8)) (pow_pos 8)
    ∙ ap₂ (λ (y z : ℕ). y * 256 + z) (one (b / 2 ^ 8) (omega arith)) (or_zero_r (b % 2 ^ 8))
  where
    one : (q : ℕ) → q < 2 → bit_or q 1 ≡ 1
    one = each_eq (λ q. bit_or q 1) (λ q. 1) 2 tt

-- how the low bits compare
abbrev low : ℕ → ℕ → ℕ
low a b = (256 + b % 256 - a % 256) / 256

compared : (a b : ℕ) → a < 512 → b < 512 → chosen (a / 256) (b / 256) (low a b) ≡ flag (leb a b)
compared a b ha hb = go (dec_lt (a / 256) (b / 256)) (dec_lt (b / 256) (a / 256)) (dec_le a b)
  where
    go : Dec (a / 256 < b / 256) → Dec (b / 256 < a / 256) → Dec (a ≤ b) → chosen (a / 256) (b / 256) (low a b) ≡ flag (leb a b)
    go (yes l) d (yes h) = ap (λ (t : Bool). cond t 1 (cond (ltb (b / 256) (a / 256)) 0 (low a b))) (lt-ltb (a / 256) (b / 256) l) ∙ ap flag (sym (le-leb a b h))
    go (yes l) d (no g) = absurd (g (omega arith))
    go (no l) (yes m) (yes h) = let r = lt_of_not-le l in absurd (omega arith)
    go (no l) (yes m) (no g) =
        ap (λ (t : Bool). cond t 1 (cond (ltb (b / 256) (a / 256)) 0 (low a b))) (le-ltb (a / 256) (b / 256) (omega arith))
        ∙ ap (λ (t : Bool). cond t 0 (low a b)) (lt-ltb (b / 256) (a / 256) m) ∙ ap flag (sym (lt-leb a b (lt_of_not-le g)))
    go (no l) (no m) (yes h) =
        let e : low a b ≡ 1 = omega arith in
        ap (λ (t : Bool). cond t 1 (cond (ltb (b / 256) (a / 256)) 0 (low a b))) (le-ltb (a / 256) (b / 256) (omega arith))
        ∙ ap (λ (t : Bool). cond t 0 (low a b)) (le-ltb (b / 256) (a / 256) (omega arith)) ∙ e ∙ ap flag (sym (le-leb a b h))
    go (no l) (no m) (no g) =
        let e : low a b ≡ 0 = omega arith in
        ap (λ (t : Bool). cond t 1 (cond (ltb (b / 256) (a / 256)) 0 (low a b))) (le-ltb (a / 256) (b / 256) (omega arith))
        ∙ ap (λ (t : Bool). cond t 0 (low a b)) (le-ltb (b / 256) (a / 256) (omega arith)) ∙ e ∙ ap flag (sym (lt-leb a b (lt_of_not-le g)))

-- what the program computes of a field, with its masks
abbrev inner : ℕ → ℕ → ℕ → ℕ → ℕ → ℕ
inner a b t l m = bit_xor (bit_or (bit_or b t - bit_and a l) (bit_xor a b)) (bit_and a (m - b))

field : (a b : ℕ) → a < 512 → b < 512 → bit_and (inner a b 256 255 511) 256 ≡ flag (leb a b) * 2 ^ 8
field a b ha hb =
    let v : ℕ = bit_or b 256 - bit_and a 255 in
    let ev : v ≡ 256 + b % 256 - a % 256 = ap₂ (λ (y z : ℕ). y - z) (or_top b hb) (and_mask a 8) in
    let nb : (511 - b) / 2 ^ 8 ≡ 1 - b / 256 = omega arith in
    and_high (inner a b 256 255 511) 1 8
    ∙ ap (λ (y : ℕ). y % 2 * 2 ^ 8)
    (xor_shr (bit_or v (bit_xor a b)) (bit_and a (511 - b)) 8
    ∙ ap₂ bit_xor (or_shr v (bit_xor a b) 8 ∙ ap₂ bit_or (ap (λ (y : ℕ). y / 2 ^ 8) ev) (xor_shr a b 8)) (and_shr a (511 - b) 8 ∙ ap (bit_and (a / 256)) nb))
    ∙ ap (λ (y : ℕ). y * 2 ^ 8) (tops_are (a / 256) (b / 256) (low a b) (omega arith) (omega arith) (omega arith) ∙ compared a b ha hb)

-- ---- the word

abbrev sel7 : ℕ → ℕ → ℕ → ℕ
sel7 i p q = cond (ltb i 7) p q

sel7_low : (i p q : ℕ) → i < 7 → sel7 i p q ≡ p
sel7_low i p q l = ap (λ (t : Bool). cond t p q) (lt-ltb i 7 l)

case7 : (P : ℕ → Type 0) → ((i : ℕ) → i < 7 → P i) → P 7 → (i : ℕ) → i < 8 → P i
case7 P f z i h = ⊎_elim (λ (e : i ≡ 7). subst⁻¹ P e z) (λ l. f i l) (eq-or-lt_of_le (le_of_suc-le-suc h))

tops_w : word 9 (λ i. sel7 i 256 0) 8 ≡ 0x4020_1008_0402_0100
unfolding word
tops_w = refl

lows_w : word 9 (λ i. sel7 i 255 1) 8 ≡ 0xbfdf_eff7_fbfd_feff
unfolding word
lows_w = refl

all_w : word 9 (λ i. sel7 i 511 1) 8 ≡ 2 ^ 64 - 1
unfolding word
all_w = refl

module _ (x y : ℕ) (hx : x < 2 ^ 63) (hy : y < 2 ^ 63) where
  abbrev a : ℕ → ℕ
  a = digit 9 x

  abbrev b : ℕ → ℕ
  b = digit 9 y

  is_x : x ≡ word 9 a 8
  is_x = sym (word-digits 9 8 x ∙ mod-eq_of_lt {n = x} {m = 2 ^ 72} (lt_of_lt_of_le hx (lit≤ tt)))

  is_y : y ≡ word 9 b 8
  is_y = sym (word-digits 9 8 y ∙ mod-eq_of_lt {n = y} {m = 2 ^ 72} (lt_of_lt_of_le hy (lit≤ tt)))

  a7 : a 7 ≡ 0
  a7 = digit_is 9 x 7 ∙ ap (λ (z : ℕ). z % 2 ^ 9) (div-eq_of_lt {n = x} {m = 2 ^ 63} hx)

  b7 : b 7 ≡ 0
  b7 = digit_is 9 y 7 ∙ ap (λ (z : ℕ). z % 2 ^ 9) (div-eq_of_lt {n = y} {m = 2 ^ 63} hy)

  a_lt : (i : ℕ) → i < 8 → a i < 512
  a_lt i _ = digit_lt 9 x i

  b_lt : (i : ℕ) → i < 8 → b i < 512
  b_lt i _ = digit_lt 9 y i

  sel_lt : (p q : ℕ) → p < 512 → q < 512 → (i : ℕ) → i < 8 → sel7 i p q < 512
  sel_lt p q hp hq = case7 (λ i. sel7 i p q < 512) (λ i l. subst⁻¹ (λ (z : ℕ). z < 512) (sel7_low i p q l) hp) hq

  or_part : bit_or y 0x4020_1008_0402_0100 ≡ word 9 (λ i. bit_or (b i) (sel7 i 256 0)) 8
  or_part = ap₂ bit_or is_y (sym tops_w) ∙ word_or 9 b (λ i. sel7 i 256 0) 8 b_lt (sel_lt 256 0 (lit< tt) (lit< tt))

  and_part : bit_and x 0xbfdf_eff7_fbfd_feff ≡ word 9 (λ i. bit_and (a i) (sel7 i 255 1)) 8
  and_part = ap₂ bit_and is_x (sym lows_w) ∙ word_and 9 a (λ i. sel7 i 255 1) 8 a_lt (sel_lt 255 1 (lit< tt) (lit< tt))

  fits : (i : ℕ) → i < 8 → bit_and (a i) (sel7 i 255 1) ≤ bit_or (b i) (sel7 i 256 0)
  fits =
      case7 (λ i. bit_and (a i) (sel7 i 255 1) ≤ bit_or (b i) (sel7 i 256 0))
      (λ i l. subst⁻¹ (λ (z : ℕ). bit_and (a i) z ≤ bit_or (b i) (sel7 i 256 0)) (sel7_low i 255 1 l)
      (subst⁻¹ (λ (z : ℕ). bit_and (a i) 255 ≤ bit_or (b i) z) (sel7_low i 256 0 l) (omega (arith, and_le_r (a i) 255, or_top (b i) (digit_lt 9 y i)))))
      (le_trans (and_le_l (a 7) 1) (le_trans (le_of_eq a7) zero-le))

  no_borrow : bit_and x 0xbfdf_eff7_fbfd_feff ≤ bit_or y 0x4020_1008_0402_0100
  no_borrow = le_trans (le_of_eq and_part) (le_trans (word_mono 9 (λ i. bit_and (a i) (sel7 i 255 1)) (λ i. bit_or (b i) (sel7 i 256 0)) 8 fits) (le_of_eq (sym or_part)))

  not_fits : (i : ℕ) → i < 8 → b i ≤ sel7 i 511 1
  not_fits =
      case7 (λ i. b i ≤ sel7 i 511 1) (λ i l. subst⁻¹ (λ (z : ℕ). b i ≤ z) (sel7_low i 511 1 l) (le_of_suc-le-suc (digit_lt 9 y i)))
      (le_trans (le_of_eq b7) zero-le)

  not_part : 2 ^ 64 - 1 - y ≡ word 9 (λ i. sel7 i 511 1 - b i) 8
  not_part = ap₂ (λ (p q : ℕ). p - q) (sym all_w) is_y ∙ word-sub 9 (λ i. sel7 i 511 1) b 8 not_fits

  sub_lt : (i : ℕ) → i < 8 → bit_or (b i) (sel7 i 256 0) - bit_and (a i) (sel7 i 255 1) < 512
  sub_lt i l = lt_of_le_of_lt (sub-le (bit_or (b i) (sel7 i 256 0)) (bit_and (a i) (sel7 i 255 1))) (or_lt 9 (b i) (sel7 i 256 0) (b_lt i l) (sel_lt 256 0 (lit< tt) (lit< tt) i l))

  not_lt : (i : ℕ) → i < 8 → sel7 i 511 1 - b i < 512
  not_lt i l = lt_of_le_of_lt (sub-le (sel7 i 511 1) (b i)) (sel_lt 511 1 (lit< tt) (lit< tt) i l)

  abbrev g : ℕ → ℕ
  g i = inner (a i) (b i) (sel7 i 256 0) (sel7 i 255 1) (sel7 i 511 1)

  g_lt : (i : ℕ) → i < 8 → g i < 512
  g_lt i l =
      xor_lt 9 (bit_or (bit_or (b i) (sel7 i 256 0) - bit_and (a i) (sel7 i 255 1)) (bit_xor (a i) (b i))) (bit_and (a i) (sel7 i 511 1 - b i))
      (or_lt 9 (bit_or (b i) (sel7 i 256 0) - bit_and (a i) (sel7 i 255 1)) (bit_xor (a i) (b i)) (sub_lt i l) (xor_lt 9 (a i) (b i) (a_lt i l) (b_lt i l)))
      (and_lt 9 (a i) (sel7 i 511 1 - b i) (a_lt i l) (not_lt i l))

  whole : bit_xor (bit_or (bit_or y 0x4020_1008_0402_0100 - bit_and x 0xbfdf_eff7_fbfd_feff) (bit_xor x y)) (bit_and x (2 ^ 64 - 1 - y)) ≡ word 9 g 8
  whole =
      let s : bit_or y 0x4020_1008_0402_0100 - bit_and x 0xbfdf_eff7_fbfd_feff ≡ word 9 (λ i. bit_or (b i) (sel7 i 256 0) - bit_and (a i) (sel7 i 255 1)) 8 =
      ap₂ (λ (p q : ℕ). p - q) or_part and_part ∙ word-sub 9 (λ i. bit_or (b i) (sel7 i 256 0)) (λ i. bit_and (a i) (sel7 i 255 1)) 8 fits in
      let e : bit_xor x y ≡ word 9 (λ i. bit_xor (a i) (b i)) 8 = ap₂ bit_xor is_x is_y ∙ word_xor 9 a b 8 a_lt b_lt in
      let d : bit_and x (2 ^ 64 - 1 - y) ≡ word 9 (λ i. bit_and (a i) (sel7 i 511 1 - b i)) 8 =
      ap₂ bit_and is_x not_part ∙ word_and 9 a (λ i. sel7 i 511 1 - b i) 8 a_lt not_lt in
      ap₂ bit_xor
      (ap₂ bit_or s e ∙ word_or 9 (λ i. bit_or (b i) (sel7 i 256 0) - bit_and (a i) (sel7 i 255 1)) (λ i. bit_xor (a i) (b i)) 8 sub_lt (λ i l. xor_lt 9 (a i) (b i) (a_lt i l) (b_lt i l)))
      d
      ∙ word_xor 9 (λ i. bit_or (bit_or (b i) (sel7 i 256 0) - bit_and (a i) (sel7 i 255 1)) (bit_xor (a i) (b i))) (λ i. bit_and (a i) (sel7 i 511 1 - b i)) 8
      (λ i l. or_lt 9 (bit_or (b i) (sel7 i 256 0) - bit_and (a i) (sel7 i 255 1)) (bit_xor (a i) (b i)) (sub_lt i l) (xor_lt 9 (a i) (b i) (a_lt i l) (b_lt i l)))
      (λ i l. and_lt 9 (a i) (sel7 i 511 1 - b i) (a_lt i l) (not_lt i l))

  abbrev f : ℕ → ℕ
  f i = flag (leb (a i) (b i))

  exact : (i : ℕ) → i < 8 → bit_and (g i) (sel7 i 256 0) ≡ sel7 i (f i) 0 * 2 ^ 8
  exact =
      case7 (λ i. bit_and (g i) (sel7 i 256 0) ≡ sel7 i (f i) 0 * 2 ^ 8)
      (λ i l.
      (λ j. bit_and (inner (a i) (b i) (sel7_low i 256 0 l j) (sel7_low i 255 1 l j) (sel7_low i 511 1 l j)) (sel7_low i 256 0 l j))
      ∙ field (a i) (b i) (digit_lt 9 x i) (digit_lt 9 y i) ∙ ap (λ (z : ℕ). z * 2 ^ 8) (sym (sel7_low i (f i) 0 l)))
      (and_zero_r (g 7))

  law : bit_and (bit_xor (bit_or (bit_or y 0x4020_1008_0402_0100 - bit_and x 0xbfdf_eff7_fbfd_feff) (bit_xor x y)) (bit_and x (2 ^ 64 - 1 - y))) 0x4020_1008_0402_0100 / 2 ^ 8 ≡ word 9 f 7
  law =
      ap₂ (λ (p q : ℕ). bit_and p q / 2 ^ 8) whole (sym tops_w)
      ∙ ap (λ (p : ℕ). p / 2 ^ 8) (word_and 9 g (λ i. sel7 i 256 0) 8 g_lt (sel_lt 256 0 (lit< tt) (lit< tt)))
      ∙ word_shr_exact 9 8 (λ i. bit_and (g i) (sel7 i 256 0)) (λ i. sel7 i (f i) 0) 8 exact
      ∙ word_top 9 (λ i. sel7 i (f i) 0) 7 refl
      ∙ word_same 9 (λ i. sel7 i (f i) 0) f 7 (λ i l. sel7_low i (f i) 0 l)

pub overflow_sub-result : goal.overflow_sub-result
overflow_sub-result c = no_borrow c.args.x c.args.y c.requires.0 c.requires.1

pub returns : goal.returns
returns c = law c.args.x c.args.y c.requires.0 c.requires.1
