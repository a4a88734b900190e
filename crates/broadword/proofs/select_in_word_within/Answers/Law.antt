-- What `select_in_word` computes, on plain numbers: which byte the one stands in, and its place in that byte. Assumes nothing.
use Rattle.std.specs.Prelude.{Some, Option, unwrap_or}
use mathlib.Core.Path.{◌≡◌, sym, ap, ap₂, ◌∙◌, subst⁻¹}
use Prim.Native.Nat.{ℕ, suc, ◌+◌, ◌-◌, ◌*◌, ◌/◌, ◌%◌, ◌^◌, ◌≤◌, ◌<◌}
use native.Mathlib.Nat.{le_trans, le_of_eq, lt_of_le_of_lt, lt_of_lt_of_le, mul_comm, mod-eq_of_lt, add-zero, not-le_of_lt, le_step, le_of_suc-le-suc, lt_trans, add-sub_of_le}
use native.Mathlib.Decide.{dec_lt}
use native.Mathlib.Omega.{arith}
use lib.Dec.{lit<}
use lib.Pow.{shr-shr}
use lib.Bits.{bit_and, bit_or, or_shifted_r, and_high}
use Rattle.broadword.specs.Bits.{bit, count, ones}
use Rattle.broadword.specs.Fields.{digit, word}
use Rattle.broadword.specs.Places.{select}
use Rattle.broadword.proofs.Bytes.{ks, msbs}
use Rattle.broadword.proofs.Count.{bit_le, count_le, count_mono, count_same, count_add, count-fields, bit-digit}
use Rattle.broadword.proofs.Fields.{digit-mod, digit-word, byte_at, masked, top_byte, word_or, word-sub, word_same, word_mono, word_shr_exact}
use Rattle.broadword.proofs.Find.{select_at, select_some}
use Rattle.broadword.proofs.Spread.{spread}
use Rattle.broadword.proofs.Threshold.{passed}

module _ (x k : ℕ) (h : k < ones x 64) where
  -- the ones of the byte i, and of the bytes up to it
  abbrev c : ℕ → ℕ
  c i = ones (digit 8 x i) 8

  abbrev sums : ℕ
  sums = word 8 (λ i. count c (suc i)) 8

  total : count c 8 ≡ ones x 64
  total = sym (count-fields 8 8 x)

  total_le : count c 8 ≤ 64
  total_le = subst⁻¹ (λ (n : ℕ). n ≤ 64) total (count_le (bit x) 64 (bit_le x))

  pub k_lt : k < 64
  k_lt = lt_of_lt_of_le h (count_le (bit x) 64 (bit_le x))

  sum_le : (i : ℕ) → i < 8 → count c (suc i) ≤ 64
  sum_le i l = le_trans (count_mono c (suc i) 8 l) total_le

  pub sums_are : (y s : ℕ) → y ≡ word 8 c 8 → s ≡ (0x0101_0101_0101_0101 * y) % 2 ^ 64 → s ≡ sums
  sums_are y s ey es = es ∙ ap (λ (z : ℕ). (0x0101_0101_0101_0101 * z) % 2 ^ 64) ey ∙ spread c (omega (arith, total_le))

  -- 0x80 + k, and less the sum, in every byte
  tops : bit_or (k * 0x0101_0101_0101_0101) 0x8080_8080_8080_8080 ≡ word 8 (λ i. 128 + k) 8
  tops =
      let l : k < 128 = omega (arith, k_lt) in
      ap₂ bit_or (ks k) (sym msbs) ∙ word_or 8 (λ i. k) (λ i. 0x80) 8 (λ i _. omega arith) (λ i _. lit< tt)
      ∙ word_same 8 (λ i. bit_or k 0x80) (λ i. 128 + k) 8 (λ i _. or_shifted_r 1 7 k l)

  lefts : bit_or (k * 0x0101_0101_0101_0101) 0x8080_8080_8080_8080 - sums ≡ word 8 (λ i. 128 + k - count c (suc i)) 8
  lefts = ap (λ (y : ℕ). y - sums) tops ∙ word-sub 8 (λ i. 128 + k) (λ i. count c (suc i)) 8 (λ i l. omega (arith, sum_le i l))

  -- 1 where the sum is at most k
  abbrev b : ℕ → ℕ
  b i = (128 + k - count c (suc i)) / 2 ^ 7 % 2 ^ 1

  b_yes : (i : ℕ) → count c (suc i) ≤ k → b i ≡ 1
  b_yes i l = let q : (128 + k - count c (suc i)) / 128 ≡ 1 = omega (arith, k_lt) in ap (λ (y : ℕ). y % 2) q

  b_no : (i : ℕ) → k < count c (suc i) → b i ≡ 0
  b_no i l = let q : (128 + k - count c (suc i)) / 128 ≡ 0 = omega arith in ap (λ (y : ℕ). y % 2) q

  b_le : (i : ℕ) → b i ≤ 1
  b_le i = omega arith

  -- the byte that the one stands in
  pub j : ℕ
  j = count b 8

  j_facts : (j ≤ 8) × (count c j ≤ k) × (j < 8 → k < count c (suc j))
  unfolding j
  j_facts = passed c b k b_yes b_no 8

  pub j_lt : j < 8
  j_lt = below (dec_lt j 8)
    where
      below : Dec (j < 8) → j < 8
      below (yes l) = l
      below (no g) = let e : j ≡ 8 = omega (arith, j_facts.0) in absurd (not-le_of_lt h (le_trans (le_of_eq (sym total ∙ ap (count c) (sym e))) j_facts.1))

  -- the flags, one in each byte
  flags : bit_and (bit_or (k * 0x0101_0101_0101_0101) 0x8080_8080_8080_8080 - sums) 0x8080_8080_8080_8080 / 2 ^ 7 ≡ word 8 b 8
  flags =
      ap (λ (y : ℕ). bit_and y 0x8080_8080_8080_8080 / 2 ^ 7) lefts
      ∙ ap (λ (y : ℕ). y / 2 ^ 7) (masked (λ i. 128 + k - count c (suc i)) 0x80 0x8080_8080_8080_8080 msbs (lit< tt) (λ i _. omega (arith, k_lt)))
      ∙ word_shr_exact 8 7 (λ i. bit_and (128 + k - count c (suc i)) 0x80) b 8 (λ i _. and_high (128 + k - count c (suc i)) 1 7)

  pub no_borrow : (s : ℕ) → s ≡ sums → s ≤ bit_or (k * 0x0101_0101_0101_0101) 0x8080_8080_8080_8080
  no_borrow s e = le_trans (le_of_eq e) (le_trans word_le (le_of_eq (sym tops)))
    where
      word_le : word 8 (λ i. count c (suc i)) 8 ≤ word 8 (λ i. 128 + k) 8
      word_le = word_mono 8 (λ i. count c (suc i)) (λ i. 128 + k) 8 (λ i l. omega (arith, sum_le i l))

  pub place_is : (s p : ℕ) → s ≡ sums
      → p ≡ (bit_and (bit_or (k * 0x0101_0101_0101_0101) 0x8080_8080_8080_8080 - s) 0x8080_8080_8080_8080 / 2 ^ 7 * 0x0101_0101_0101_0101) % 2 ^ 64
      → bit_and (p / 2 ^ 53) 0xffff_ffff_ffff_fff8 ≡ j * 8
  unfolding j
  place_is s p es ep =
      let small : count b 8 < 256 = lt_of_le_of_lt (count_le b 8 b_le) (lit< tt) in
      let w : p ≡ word 8 (λ i. count b (suc i)) 8 =
      ep
      ∙ ap (λ (y : ℕ). (bit_and (bit_or (k * 0x0101_0101_0101_0101) 0x8080_8080_8080_8080 - y) 0x8080_8080_8080_8080 / 2 ^ 7 * 0x0101_0101_0101_0101) % 2 ^ 64) es
      ∙ ap (λ (y : ℕ). (y * 0x0101_0101_0101_0101) % 2 ^ 64) flags
      ∙ ap (λ (y : ℕ). y % 2 ^ 64) (mul_comm (word 8 b 8) 0x0101_0101_0101_0101)
      ∙ spread b small in
      let top : p / 2 ^ 53 / 2 ^ 3 ≡ j =
      shr-shr p 53 3 ∙ ap (λ (y : ℕ). y / 2 ^ 56) w
      ∙ top_byte (λ i. count b (suc i)) (λ i l. lt_of_le_of_lt (count_mono b (suc i) 8 l) small) in
      and_high (p / 2 ^ 53) 61 3 ∙ ap (λ (y : ℕ). y % 2 ^ 61 * 2 ^ 3) top ∙ ap (λ (y : ℕ). y * 8) (mod-eq_of_lt {n = j} {m = 2 ^ 61} (omega (arith, j_lt)))

  count_lt : (i : ℕ) → i ≤ 8 → count c i < 256
  count_lt i l = lt_of_le_of_lt (le_trans (count_mono c i 8 l) total_le) (lit< tt)

  -- the sums shifted up by a byte are the ones below each byte
  pub rank_is : (s q : ℕ) → s ≡ sums → q ≡ j * 8 → bit_and ((s * 2 ^ 8) % 2 ^ 64 / 2 ^ q) 0xff ≡ count c j
  unfolding word count
  rank_is s q es eq =
      let up : s * 2 ^ 8 ≡ word 8 (count c) 9 = ap (λ (y : ℕ). y * 2 ^ 8) es ∙ sym (add-zero (sums * 2 ^ 8)) in
      byte_at ((s * 2 ^ 8) % 2 ^ 64) q j eq
      ∙ digit-mod 8 8 (s * 2 ^ 8) j j_lt
      ∙ ap (λ (y : ℕ). digit 8 y j) up
      ∙ digit-word 8 (count c) 9 (λ i l. count_lt i (le_of_suc-le-suc l)) j (le_step j_lt)

  pub rank_le : count c j ≤ k
  rank_le = j_facts.1

  pub byte_rank_lt : k - count c j < c j
  unfolding count
  byte_rank_lt = omega (arith, j_facts.2 j_lt, rank_le)

  pub byte_rank_8 : k - count c j < 8
  byte_rank_8 = lt_of_lt_of_le byte_rank_lt (count_le (bit (digit 8 x j)) 8 (bit_le (digit 8 x j)))

  pub found : (B r t : ℕ) → B ≡ digit 8 x j → r ≡ k - count c j → t ≡ unwrap_or (select (bit B) 8 r) 8
      → (t < 8) × (select (bit x) 64 k ≡ Some (j * 8 + t))
  found B r t eB er et =
      let d : ℕ = digit 8 x j in
      let s = select_some (bit d) 8 (k - count c j) (bit_le d) byte_rank_lt in
      let u : ℕ = s.0 in
      let is_at : select (bit d) 8 (k - count c j) ≡ Some u = select_at (bit d) 8 (k - count c j) u s.1.within s.1.one s.1.before in
      let e : t ≡ u = et ∙ ap₂ (λ (p q : ℕ). unwrap_or (select (bit p) 8 q) 8) eB er ∙ ap (λ (f : Option ℕ). unwrap_or f 8) is_at in
      let l : u < 8 = s.1.within in
      let one : bit x (j * 8 + u) ≡ 1 = sym (bit-digit 8 x j u l) ∙ s.1.one in
      let before : count (bit x) (j * 8 + u) ≡ k =
      count_add (bit x) (j * 8) u
      ∙ ap₂ (λ (p q : ℕ). p + q) (count-fields 8 j x) (count_same (λ i. bit x (j * 8 + i)) (bit d) u (λ i m. sym (bit-digit 8 x j i (lt_trans m l))))
      ∙ ap (λ (y : ℕ). count c j + y) s.1.before ∙ add-sub_of_le rank_le in
      (subst⁻¹ (λ (y : ℕ). y < 8) e l, select_at (bit x) 64 k (j * 8 + u) (omega (arith, j_lt)) one before ∙ ap (λ (y : ℕ). Some (j * 8 + y)) (sym e))
