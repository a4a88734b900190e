-- A time by its high and its low bits, compared with another. Assumes nothing.
use mathlib.Core.Path.{◌≡◌}
use Prim.Native.Nat.{ℕ, suc, ◌+◌, ◌*◌, ◌/◌, ◌%◌, ◌^◌, ◌≤◌, ◌<◌}
use native.Mathlib.Nat.{le_refl, mul-le-mul, mod-lt, lt_of_not-le, le_of_suc-le-suc, suc-mul}
use native.Mathlib.Omega.{arith}
use lib.Pow.{pow_pos, split}

module _ (l : ℕ) where
  scaled : (a b : ℕ) → a ≤ b → a * 2 ^ l ≤ b * 2 ^ l
  scaled a b h = mul-le-mul h (le_refl (2 ^ l))

  next_is : (h : ℕ) → (h + 1) * 2 ^ l ≡ h * 2 ^ l + 2 ^ l
  next_is h = omega arith

  -- high bits up to h, and a time below the first with greater ones
  pub upper_le : (t h : ℕ) → t < (h + 1) * 2 ^ l → t / 2 ^ l ≤ h
  upper_le t h g = le_of_suc-le-suc (lt_of_not-le (λ (k : suc h ≤ t / 2 ^ l). let a = scaled (suc h) (t / 2 ^ l) k in let b = split t l in let c = suc-mul h (2 ^ l) in let d = next_is h in omega arith))

  pub time_lt : (t h : ℕ) → t / 2 ^ l ≤ h → t < (h + 1) * 2 ^ l
  time_lt t h g = let a = scaled (t / 2 ^ l) h g in let b = split t l in let c = mod-lt t (pow_pos l) in let d = next_is h in omega arith

  pub time_past : (t h : ℕ) → h < t / 2 ^ l → (h + 1) * 2 ^ l ≤ t
  time_past t h g = let a = scaled (suc h) (t / 2 ^ l) g in let b = split t l in let c = suc-mul h (2 ^ l) in let d = next_is h in omega arith

  pub upper_from : (t h : ℕ) → h * 2 ^ l ≤ t → h ≤ t / 2 ^ l
  upper_from t h g = le_of_suc-le-suc (lt_of_not-le (λ (k : suc (t / 2 ^ l) ≤ h). let a = time_lt t (t / 2 ^ l) (le_refl (t / 2 ^ l)) in let b = scaled (suc (t / 2 ^ l)) h k in let c = suc-mul (t / 2 ^ l) (2 ^ l) in let d = next_is (t / 2 ^ l) in omega arith))

  -- lesser high bits
  pub high_less : (t v : ℕ) → t / 2 ^ l < v / 2 ^ l → t < v
  high_less t v g = let a = time_past v (t / 2 ^ l) g in let b = time_lt t (t / 2 ^ l) (le_refl (t / 2 ^ l)) in omega arith

  -- high bits up to those of v, and lesser low bits
  pub low_less : (t v : ℕ) → t / 2 ^ l ≤ v / 2 ^ l → t % 2 ^ l < v % 2 ^ l → t < v
  low_less t v g k = let a = scaled (t / 2 ^ l) (v / 2 ^ l) g in let b = split t l in let c = split v l in omega arith

  -- the same high bits, and low bits that are not less
  pub low_not_less : (t v : ℕ) → v / 2 ^ l ≤ t / 2 ^ l → v % 2 ^ l ≤ t % 2 ^ l → v ≤ t
  low_not_less t v g k = let a = scaled (v / 2 ^ l) (t / 2 ^ l) g in let b = split t l in let c = split v l in omega arith
