-- `broadword::byte_counts` meets its contract: no step carries from a byte to another (`Fields.antt`), so each is a step on bytes,
-- and antt computes the three steps at each of the 256 bytes.
-- Assumes nothing.
use mathlib.Core.Path.{◌≡◌, refl, sym, ap, ap₂, ◌∙◌}
use Prim.Native.Nat.{ℕ, suc, ◌+◌, ◌-◌, ◌*◌, ◌/◌, ◌%◌, ◌^◌, ◌≤◌, ◌<◌}
use native.Mathlib.Nat.{div-eq_of_lt}
use native.Mathlib.Omega.{arith}
use lib.Bits.{bit_and, and_shr, and_mask, and_le_l, and_le_r}
use lib.Dec.{lit<}
use Rattle.broadword.specs.Bits.{bit, count, ones}
use Rattle.broadword.specs.Fields.{digit, word}
use Rattle.broadword.proofs.Fields.{bytes, digit_lt, digit_is, word_same, word_add, word-sub, word_and, word_shr_exact, word_shr}
use Rattle.broadword.proofs.Table.{each_eq, each_le}
use Rattle.broadword.proofs.byte_counts.Goals as goal

-- the steps at a byte
abbrev step_a : ℕ → ℕ
step_a d = d - bit_and d 0xaa / 2

abbrev step_b : ℕ → ℕ
step_b d = bit_and (step_a d) 0x33 + bit_and (step_a d) 0xcc / 4

-- what antt computes of them
even_a : (d : ℕ) → d < 256 → bit_and d 0xaa ≡ bit_and d 0xaa / 2 * 2
even_a = each_eq (λ d. bit_and d 0xaa) (λ d. bit_and d 0xaa / 2 * 2) 256 tt

less_a : (d : ℕ) → d < 256 → bit_and d 0xaa / 2 ≤ d
less_a = each_le (λ d. bit_and d 0xaa / 2) (λ d. d) 256 tt

small_a : (d : ℕ) → d < 256 → step_a d ≤ 255
small_a = each_le step_a (λ d. 255) 256 tt

even_b : (d : ℕ) → d < 256 → bit_and (step_a d) 0xcc ≡ bit_and (step_a d) 0xcc / 4 * 4
even_b = each_eq (λ d. bit_and (step_a d) 0xcc) (λ d. bit_and (step_a d) 0xcc / 4 * 4) 256 tt

small_b : (d : ℕ) → d < 256 → step_b d ≤ 0x44
small_b = each_le step_b (λ d. 0x44) 256 tt

low_b : (d : ℕ) → d < 256 → step_b d % 16 ≤ 4
low_b = each_le (λ d. step_b d % 16) (λ d. 4) 256 tt

counted : (d : ℕ) → d < 256 → (step_b d + step_b d / 16) % 16 ≡ ones d 8
unfolding bit count
counted = each_eq (λ d. (step_b d + step_b d / 16) % 16) (λ d. ones d 8) 256 tt

-- a byte in every place
twos : word 8 (λ i. 0xaa) 8 ≡ 0xaaaa_aaaa_aaaa_aaaa
unfolding word
twos = refl

threes : word 8 (λ i. 0x33) 8 ≡ 0x3333_3333_3333_3333
unfolding word
threes = refl

twelves : word 8 (λ i. 0xcc) 8 ≡ 0xcccc_cccc_cccc_cccc
unfolding word
twelves = refl

nibbles : word 8 (λ i. 0x0f) 8 ≡ 0x0f0f_0f0f_0f0f_0f0f
unfolding word
nibbles = refl

-- what the program computes
abbrev val_a : ℕ → ℕ
val_a x = x - bit_and x 0xaaaa_aaaa_aaaa_aaaa / 2 ^ 1

abbrev val_b : ℕ → ℕ
val_b a = bit_and a 0x3333_3333_3333_3333 + bit_and (a / 2 ^ 2) 0x3333_3333_3333_3333

-- a mask with one byte in every place, on a word
masked : (f : ℕ → ℕ) (m M : ℕ) → word 8 (λ i. m) 8 ≡ M → m < 256 → ((i : ℕ) → i < 8 → f i < 256) → bit_and (word 8 f 8) M ≡ word 8 (λ i. bit_and (f i) m) 8
masked f m M e l h = ap (bit_and (word 8 f 8)) (sym e) ∙ word_and 8 f (λ i. m) 8 h (λ i _. l)

module _ (x : ℕ) (h : x < 2 ^ 64) where
  abbrev d : ℕ → ℕ
  d = digit 8 x

  lt : (i : ℕ) → d i < 256
  lt i = digit_lt 8 x i

  is_a : val_a x ≡ word 8 (λ i. step_a (d i)) 8
  is_a =
      let m : bit_and x 0xaaaa_aaaa_aaaa_aaaa / 2 ^ 1 ≡ word 8 (λ i. bit_and (d i) 0xaa / 2) 8 =
      ap (λ (y : ℕ). bit_and y 0xaaaa_aaaa_aaaa_aaaa / 2 ^ 1) (bytes x h)
      ∙ ap (λ (y : ℕ). y / 2 ^ 1) (masked d 0xaa 0xaaaa_aaaa_aaaa_aaaa twos (lit< tt) (λ i _. lt i))
      ∙ word_shr_exact 8 1 (λ i. bit_and (d i) 0xaa) (λ i. bit_and (d i) 0xaa / 2) 8 (λ i _. even_a (d i) (lt i)) in
      ap₂ (λ (y z : ℕ). y - z) (bytes x h) m ∙ word-sub 8 d (λ i. bit_and (d i) 0xaa / 2) 8 (λ i _. less_a (d i) (lt i))

  is_b : val_b (val_a x) ≡ word 8 (λ i. step_b (d i)) 8
  is_b =
      let a : ℕ = word 8 (λ i. step_a (d i)) 8 in
      let small : (i : ℕ) → i < 8 → step_a (d i) < 256 = (λ i _. omega (arith, small_a (d i) (lt i))) in
      let lows = masked (λ i. step_a (d i)) 0x33 0x3333_3333_3333_3333 threes (lit< tt) small in
      let highs : bit_and (a / 2 ^ 2) 0x3333_3333_3333_3333 ≡ word 8 (λ i. bit_and (step_a (d i)) 0xcc / 4) 8 =
      sym (and_shr a 0xcccc_cccc_cccc_cccc 2)
      ∙ ap (λ (y : ℕ). y / 2 ^ 2) (masked (λ i. step_a (d i)) 0xcc 0xcccc_cccc_cccc_cccc twelves (lit< tt) small)
      ∙ word_shr_exact 8 2 (λ i. bit_and (step_a (d i)) 0xcc) (λ i. bit_and (step_a (d i)) 0xcc / 4) 8 (λ i _. even_b (d i) (lt i)) in
      ap val_b is_a ∙ ap₂ (λ (y z : ℕ). y + z) lows highs
      ∙ word_add 8 (λ i. bit_and (step_a (d i)) 0x33) (λ i. bit_and (step_a (d i)) 0xcc / 4) 8

  above : d 8 ≡ 0
  above = digit_is 8 x 8 ∙ ap (λ (y : ℕ). y % 2 ^ 8) (div-eq_of_lt {n = x} {m = 2 ^ 64} h)

  is_c : bit_and (val_b (val_a x) + val_b (val_a x) / 2 ^ 4) 0x0f0f_0f0f_0f0f_0f0f ≡ word 8 (λ i. ones (d i) 8) 8
  is_c =
      let f : ℕ → ℕ = λ i. step_b (d i) in
      let g : ℕ → ℕ = λ i. f i + (f i / 2 ^ 4 + f (suc i) % 2 ^ 4 * 2 ^ 4) in
      ap (λ (y : ℕ). bit_and (y + y / 2 ^ 4) 0x0f0f_0f0f_0f0f_0f0f) is_b
      ∙ ap (λ (y : ℕ). bit_and (word 8 f 8 + y) 0x0f0f_0f0f_0f0f_0f0f) (word_shr 4 4 f 8 (ap step_b above))
      ∙ ap (λ (y : ℕ). bit_and y 0x0f0f_0f0f_0f0f_0f0f) (word_add 8 f (λ i. f i / 2 ^ 4 + f (suc i) % 2 ^ 4 * 2 ^ 4) 8)
      ∙ masked g 0x0f 0x0f0f_0f0f_0f0f_0f0f nibbles (lit< tt) (λ i _. omega (arith, small_b (d i) (lt i), low_b (d (suc i)) (lt (suc i))))
      ∙ word_same 8 (λ i. bit_and (g i) 0x0f) (λ i. ones (d i) 8) 8 (λ i _. and_mask (g i) 4 ∙ drop (f i) (f (suc i) % 2 ^ 4) ∙ counted (d i) (lt i))
    where
      drop : (s t : ℕ) → (s + (s / 2 ^ 4 + t * 2 ^ 4)) % 2 ^ 4 ≡ (s + s / 16) % 16
      drop s t = omega arith

pub overflow_sub-a : goal.overflow_sub-a
overflow_sub-a c = omega (arith, and_le_l c.args.x 0xaaaa_aaaa_aaaa_aaaa)

pub overflow_add-b : goal.overflow_add-b
overflow_add-b c = omega (arith, and_le_r (val_a c.args.x) 0x3333_3333_3333_3333, and_le_r (val_a c.args.x / 2 ^ 2) 0x3333_3333_3333_3333)

pub overflow_add-result : goal.overflow_add-result
overflow_add-result c = omega (arith, and_le_r (val_a c.args.x) 0x3333_3333_3333_3333, and_le_r (val_a c.args.x / 2 ^ 2) 0x3333_3333_3333_3333)

pub returns : goal.returns
returns c = is_c c.args.x c.ranges.x.fits
