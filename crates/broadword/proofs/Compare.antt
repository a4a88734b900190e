-- Bytes below 128, compared all at once: 128 + y - x has its top bit set where x is at most y. Assumes nothing.
use borrow.Author.Tests.{le-leb, lt-leb}
use mathlib.Core.Path.{◌≡◌, refl, sym, ap, ap₂, ◌∙◌}
use Prim.Native.Nat.{ℕ, ◌+◌, ◌-◌, ◌*◌, ◌/◌, ◌%◌, ◌^◌, ◌≤◌, ◌<◌}
use native.Mathlib.Nat.{le_trans, le_of_eq, lt_of_not-le, lt_of_le_of_lt, lt_of_lt_of_le, mod-eq_of_lt, div-eq_of_lt}
use native.Mathlib.Decide.{dec_le}
use native.Mathlib.Omega.{arith}
use lib.Dec.{leb, lit<, lit≤}
use lib.Bits.{bit_and, bit_or, bit_xor, and_high, and_mask, and_le_l, xor_lt, xor_shr, xor_zero_r, or_shifted_r}
use Rattle.broadword.specs.Fields.{digit, word, flag, LowBytes}
use Rattle.broadword.proofs.Bytes.{msbs}
use Rattle.broadword.proofs.Truth.{flag_lt}
use Rattle.broadword.proofs.Fields.{bytes, digit_lt, masked, word_mono, word_or, word_and, word_xor, word-sub, word_same, word_shr_exact}

lows : word 8 (λ i. 0x7f) 8 ≡ 0x7f7f_7f7f_7f7f_7f7f
unfolding word
lows = refl

all : word 8 (λ i. 0xff) 8 ≡ 2 ^ 64 - 1
unfolding word
all = refl

-- at one byte
top_flag : (a b : ℕ) → a < 128 → b < 128 → (128 + b - a) / 2 ^ 7 ≡ flag (leb a b)
top_flag a b ha hb = go (dec_le a b)
  where
    go : Dec (a ≤ b) → (128 + b - a) / 2 ^ 7 ≡ flag (leb a b)
    go (yes l) = let q : (128 + b - a) / 128 ≡ 1 = omega arith in q ∙ ap flag (sym (le-leb a b l))
    go (no g) = let l : b < a = lt_of_not-le g in let q : (128 + b - a) / 128 ≡ 0 = omega arith in q ∙ ap flag (sym (lt-leb a b l))

module _ (x y : ℕ) (hx : x < 2 ^ 64) (hy : y < 2 ^ 64) (lx : LowBytes x) (ly : LowBytes y) where
  abbrev a : ℕ → ℕ
  a = digit 8 x

  abbrev b : ℕ → ℕ
  b = digit 8 y

  abbrev f : ℕ → ℕ
  f i = flag (leb (a i) (b i))

  tops : bit_or y 0x8080_8080_8080_8080 ≡ word 8 (λ i. 128 + b i) 8
  tops =
      ap₂ bit_or (bytes y hy) (sym msbs) ∙ word_or 8 b (λ i. 0x80) 8 (λ i _. digit_lt 8 y i) (λ i _. lit< tt)
      ∙ word_same 8 (λ i. bit_or (b i) 0x80) (λ i. 128 + b i) 8 (λ i l. or_shifted_r 1 7 (b i) (ly i l))

  low : bit_and x 0x7f7f_7f7f_7f7f_7f7f ≡ word 8 a 8
  low =
      ap₂ bit_and (bytes x hx) (sym lows) ∙ word_and 8 a (λ i. 0x7f) 8 (λ i _. digit_lt 8 x i) (λ i _. lit< tt)
      ∙ word_same 8 (λ i. bit_and (a i) 0x7f) a 8 (λ i l. and_mask (a i) 7 ∙ mod-eq_of_lt {n = a i} {m = 2 ^ 7} (lx i l))

  pub no_borrow : bit_and x 0x7f7f_7f7f_7f7f_7f7f ≤ bit_or y 0x8080_8080_8080_8080
  no_borrow = le_trans (le_of_eq low) (le_trans (word_mono 8 a (λ i. 128 + b i) 8 (λ i l. omega (arith, lx i l))) (le_of_eq (sym tops)))

  diff : bit_or y 0x8080_8080_8080_8080 - bit_and x 0x7f7f_7f7f_7f7f_7f7f ≡ word 8 (λ i. 128 + b i - a i) 8
  diff = ap₂ (λ (p q : ℕ). p - q) tops low ∙ word-sub 8 (λ i. 128 + b i) a 8 (λ i l. omega (arith, lx i l))

  -- a word whose bytes have the comparison in their top bits
  abbrev Tops : (ℕ → ℕ) → Type 0
  Tops v = (i : ℕ) → i < 8 → (v i < 256) × (v i / 2 ^ 7 ≡ f i)

  from_tops : (v : ℕ → ℕ) → Tops v → bit_and (word 8 v 8) 0x8080_8080_8080_8080 / 2 ^ 7 ≡ word 8 f 8
  from_tops v h =
      ap (λ (p : ℕ). p / 2 ^ 7) (masked v 0x80 0x8080_8080_8080_8080 msbs (lit< tt) (λ i l. (h i l).0))
      ∙ word_shr_exact 8 7 (λ i. bit_and (v i) 0x80) f 8 (λ i l. and_high (v i) 1 7 ∙ ap (λ (p : ℕ). p % 2 * 2 ^ 7) (h i l).1 ∙ ap (λ (p : ℕ). p * 2 ^ 7) (mod-eq_of_lt {n = f i} {m = 2} (flag_lt (leb (a i) (b i)))))

  -- what is below 128 leaves the top bits
  keeps : (v z : ℕ → ℕ) → Tops v → ((i : ℕ) → i < 8 → z i < 128) → Tops (λ i. bit_xor (v i) (z i))
  keeps v z h hz i l = (
    xor_lt 8 (v i) (z i) (h i l).0 (lt_of_lt_of_le (hz i l) (lit≤ tt)),
    xor_shr (v i) (z i) 7 ∙ ap (bit_xor (v i / 2 ^ 7)) (div-eq_of_lt {n = z i} {m = 2 ^ 7} (hz i l)) ∙ xor_zero_r (v i / 2 ^ 7) ∙ (h i l).1,
  )

  first : Tops (λ i. 128 + b i - a i)
  first i l = let p = lx i l in let q = ly i l in (omega arith, top_flag (a i) (b i) p q)

  xy : bit_xor x y ≡ word 8 (λ i. bit_xor (a i) (b i)) 8
  xy = ap₂ bit_xor (bytes x hx) (bytes y hy) ∙ word_xor 8 a b 8 (λ i _. digit_lt 8 x i) (λ i _. digit_lt 8 y i)

  xy_lt : (i : ℕ) → i < 8 → bit_xor (a i) (b i) < 128
  xy_lt i l = xor_lt 7 (a i) (b i) (lx i l) (ly i l)

  second : Tops (λ i. bit_xor (128 + b i - a i) (bit_xor (a i) (b i)))
  second = keeps (λ i. 128 + b i - a i) (λ i. bit_xor (a i) (b i)) first xy_lt

  inner : bit_xor (bit_or y 0x8080_8080_8080_8080 - bit_and x 0x7f7f_7f7f_7f7f_7f7f) (bit_xor x y) ≡ word 8 (λ i. bit_xor (128 + b i - a i) (bit_xor (a i) (b i))) 8
  inner =
      ap₂ bit_xor diff xy
      ∙ word_xor 8 (λ i. 128 + b i - a i) (λ i. bit_xor (a i) (b i)) 8 (λ i l. (first i l).0) (λ i l. lt_of_lt_of_le (xy_lt i l) (lit≤ tt))

  pub leq : bit_and (bit_xor (bit_or y 0x8080_8080_8080_8080 - bit_and x 0x7f7f_7f7f_7f7f_7f7f) (bit_xor x y)) 0x8080_8080_8080_8080 / 2 ^ 7 ≡ word 8 f 8
  leq = ap (λ (p : ℕ). bit_and p 0x8080_8080_8080_8080 / 2 ^ 7) inner ∙ from_tops (λ i. bit_xor (128 + b i - a i) (bit_xor (a i) (b i))) second

  -- x & !y
  only_x : bit_and x (2 ^ 64 - 1 - y) ≡ word 8 (λ i. bit_and (a i) (255 - b i)) 8
  only_x =
      ap₂ bit_and (bytes x hx) (ap₂ (λ (p q : ℕ). p - q) (sym all) (bytes y hy) ∙ word-sub 8 (λ i. 0xff) b 8 (λ i l. omega (arith, ly i l)))
      ∙ word_and 8 a (λ i. 255 - b i) 8 (λ i _. digit_lt 8 x i) (λ i _. omega arith)

  only_lt : (i : ℕ) → i < 8 → bit_and (a i) (255 - b i) < 128
  only_lt i l = lt_of_le_of_lt (and_le_l (a i) (255 - b i)) (lx i l)

  pub uleq : bit_and (bit_xor (bit_xor (bit_or y 0x8080_8080_8080_8080 - bit_and x 0x7f7f_7f7f_7f7f_7f7f) (bit_xor x y)) (bit_and x (2 ^ 64 - 1 - y))) 0x8080_8080_8080_8080 / 2 ^ 7 ≡ word 8 f 8
  uleq =
      ap (λ (p : ℕ). bit_and p 0x8080_8080_8080_8080 / 2 ^ 7)
      (ap₂ bit_xor inner only_x
      ∙ word_xor 8 (λ i. bit_xor (128 + b i - a i) (bit_xor (a i) (b i))) (λ i. bit_and (a i) (255 - b i)) 8 (λ i l. (second i l).0) (λ i l. lt_of_lt_of_le (only_lt i l) (lit≤ tt)))
      ∙ from_tops (λ i. bit_xor (bit_xor (128 + b i - a i) (bit_xor (a i) (b i))) (bit_and (a i) (255 - b i)))
      (keeps (λ i. bit_xor (128 + b i - a i) (bit_xor (a i) (b i))) (λ i. bit_and (a i) (255 - b i)) second only_lt)
