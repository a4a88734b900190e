-- Where a one stands in a run of bits: the last one, and the one that k ones stand before. Assumes nothing.
use Rattle.std.specs.Prelude.{◌≡◌, List, ◌&&◌, cond, ℕ, zero, suc, ◌+◌, ◌*◌, ◌/◌, ◌%◌, ◌^◌, ◌<◌, eqb, get_or, Some, None, Option, unwrap_or}
use Rattle.broadword.specs.Bits.{bit, count}

-- the highest place below n at which f is 1
unfoldable pub last : (ℕ → ℕ) → ℕ → Option ℕ
last f zero = None
last f (suc n) = cond (eqb (f n) 1) (Some n) (last f n)

-- the place below n at which f is 1, and before which k ones stand
unfoldable pub select : (ℕ → ℕ) → ℕ → ℕ → Option ℕ
unfolding count
select f zero k = None
select f (suc n) k = cond (eqb (f n) 1 && eqb (count f n) k) (Some n) (select f n k)

-- the rule of SELECT_IN_BYTE: at b + 256 × r stands the place in the byte b of the one that r ones stand before, or 8
abbrev pub SelectInByte : List ℕ → Type 0
SelectInByte table = (b r : ℕ) → b < 256 → r < 8 → get_or table (b + 256 * r) 0 ≡ unwrap_or (select (bit b) 8 r) 8

-- the rule of DEBRUIJN64_MAPPING: at the top six bits of DEBRUIJN64 × 2 ^ k, as the product wraps, stands k
abbrev pub Debruijn64 : List ℕ → Type 0
Debruijn64 table = (k : ℕ) → k < 64 → get_or table ((0x07ED_D5E5_9A4E_28C2 * 2 ^ k) % 2 ^ 64 / 2 ^ 58) 0 ≡ k
