-- Low bits that a walk has read ahead, with a one above them: how they begin, are read, are taken and go on. Assumes nothing.
use mathlib.Core.Path.{◌≡◌, refl, sym, ap, ◌∙◌}
use mathlib.Core.List.{List}
use Prim.Native.Nat.{ℕ, ◌+◌, ◌-◌, ◌*◌, ◌/◌, ◌%◌, ◌^◌, ◌≤◌, ◌<◌}
use native.Mathlib.Nat.{lt_of_not-le, le_dest, mul-mod_left, div-eq_of_lt, zero-div}
use native.Mathlib.Decide.{dec_le, ℕ_discrete}
use native.Mathlib.Omega.{arith}
use lib.Bits.{bit_and, bit_or, or_shr, or_mod, or_zero_r}
use lib.ListN.{length}
use lib.Pow.{pow_pos, pow-add, shr-shr}
use Rattle.broadword.specs.Bits.{bit}
use Rattle.broadword.specs.Fields.{word}
use Rattle.broadword.proofs.Count.{bit-mod}
use Rattle.broadword.proofs.Fields.{word_same}
use Rattle.bit_words.specs.Vector.{bit_at}
use Rattle.bit_words.proofs.Runs.{bit_at_le}
use Rattle.bit_words.proofs.Windows.{number_bit, number_bits}
use Rattle.elias_fano_words.proofs.Reading.{masked, low_none}
use Rattle.elias_fano_walk.specs.Walking.{LowsAhead}

-- none yet
pub none_read : (low : List ℕ) (pos : ℕ) → LowsAhead low pos 1
none_read low pos = record { many = 0; top = refl; bits = λ n h _. none n (omega arith) }
  where
    none : (n : ℕ) → n ≡ 0 → 1 % 2 ^ n ≡ word 1 (λ j. bit_at low (pos + j)) n
    none n e = ap (λ (y : ℕ). 1 % 2 ^ y) e ∙ sym (low_none low n pos e)

-- as many as are there are enough
pub has_many : (low : List ℕ) (pos x l : ℕ) (a : LowsAhead low pos x) → l ≤ a.many → x / 2 ^ l ≡ 0 → ⊥
has_many low pos x l a h z =
    let d = le_dest h in
    let e : a.many ≡ l + d.0 = omega (arith, d.1) in
    let t : ◌≡◌ {A = ℕ} 0 1 = sym (zero-div (2 ^ d.0)) ∙ ap (λ (y : ℕ). y / 2 ^ d.0) (sym z) ∙ shr-shr x l d.0 ∙ ap (λ (k : ℕ). x / 2 ^ k) (sym e) ∙ a.top in
    omega arith

-- 63, and a one above them
module _ (low : List ℕ) (pos x : ℕ) (fits : x < 2 ^ 64) (g : (n : ℕ) → n ≤ 64 → pos + n ≤ length low * 64 → x % 2 ^ n ≡ word 1 (λ j. bit_at low (pos + j)) n) where
  or_one : (t : ℕ) → t < 2 → bit_or t 1 ≡ 1
  or_one t h = go (ℕ_discrete t 0)
    where
      go : Dec (t ≡ 0) → bit_or t 1 ≡ 1
      go (yes e) = ap (λ (y : ℕ). bit_or y 1) e
      go (no n) = ap (λ (y : ℕ). bit_or y 1) (let e : t ≡ 1 = omega arith in e)

  under : (n : ℕ) → n ≤ 63 → 2 ^ 63 % 2 ^ n ≡ 0
  under n h =
      let d = le_dest h in
      let e : 63 ≡ d.0 + n = omega (arith, d.1) in
      ap (λ (k : ℕ). 2 ^ k % 2 ^ n) e ∙ ap (λ (y : ℕ). y % 2 ^ n) (pow-add 2 d.0 n) ∙ mul-mod_left (2 ^ d.0) (2 ^ n)

  pub many_read : (l : ℕ) → l < 64 → LowsAhead low pos (bit_or x (2 ^ 63)) × (bit_or x (2 ^ 63) / 2 ^ l ≡ 0 → ⊥)
  many_read l few =
      let m : LowsAhead low pos (bit_or x (2 ^ 63)) = record {
        many = 63;
        top = or_shr x (2 ^ 63) 63 ∙ or_one (x / 2 ^ 63) (omega arith);
        bits = λ n h r. or_mod x (2 ^ 63) n ∙ ap (bit_or (x % 2 ^ n)) (under n h) ∙ or_zero_r (x % 2 ^ n) ∙ g n (omega arith) r;
      } in
      (m, has_many low pos (bit_or x (2 ^ 63)) l m (omega arith))

-- too few of them are left for some that are wanted
pub some_wanted : (low : List ℕ) (pos x l : ℕ) → LowsAhead low pos x → x / 2 ^ l ≡ 0 → 0 < l
some_wanted low pos x l a z = go (ℕ_discrete l 0)
  where
    go : Dec (l ≡ 0) → 0 < l
    go (yes e) =
        absurd (has_many low pos x l a (omega arith) z)
    go (no n) = omega arith

-- enough of them are left
module _ (low : List ℕ) (pos x l : ℕ) (a : LowsAhead low pos x) (h : x / 2 ^ l ≡ 0 → ⊥) where
  enough : l ≤ a.many
  enough = go (dec_le l a.many)
    where
      go : Dec (l ≤ a.many) → l ≤ a.many
      go (yes k) = k
      go (no n) =
          let d = le_dest (lt_of_not-le n) in
          let e : l ≡ a.many + (1 + d.0) = omega (arith, d.1) in
          absurd (h (ap (λ (k : ℕ). x / 2 ^ k) e ∙ sym (shr-shr x a.many (1 + d.0)) ∙ ap (λ (y : ℕ). y / 2 ^ (1 + d.0)) a.top ∙ div-eq_of_lt (let q = pow_pos d.0 in let r = pow-add 2 1 d.0 in omega arith)))

  pub lowest : l < 64 → pos + l ≤ length low * 64 → bit_and x ((1 * 2 ^ l) % 2 ^ 64 - 1) ≡ word 1 (λ j. bit_at low (pos + j)) l
  lowest few room = masked l x few ∙ a.bits l enough room

  pub go_on_lem : LowsAhead low (pos + l) (x / 2 ^ l)
  go_on_lem = record {
    many = a.many - l;
    top = shr-shr x l (a.many - l) ∙ ap (λ (k : ℕ). x / 2 ^ k) (let g = enough in let e : l + (a.many - l) ≡ a.many = omega arith in e) ∙ a.top;
    bits = λ n m r. rest n (let g = enough in omega arith) r;
  }
    where
      rest : (n : ℕ) → l + n ≤ a.many → pos + l + n ≤ length low * 64 → x / 2 ^ l % 2 ^ n ≡ word 1 (λ j. bit_at low (pos + l + j)) n
      rest n m r =
          let f : ℕ → ℕ = λ j. bit_at low (pos + j) in
          let e : x % 2 ^ (l + n) ≡ word 1 f (l + n) = a.bits (l + n) m (omega arith) in
          sym (number_bits x l n)
          ∙ word_same 1 (λ j. bit x (l + j)) (λ j. bit_at low (pos + l + j)) n (λ j k.
          let q : pos + (l + j) ≡ pos + l + j = omega arith in
          sym (bit-mod x (l + n) (l + j) (omega arith)) ∙ ap (λ (y : ℕ). bit y (l + j)) e
          ∙ number_bit f (l + n) (l + j) (λ i. bit_at_le low (pos + i)) (omega arith) ∙ ap (bit_at low) q)
