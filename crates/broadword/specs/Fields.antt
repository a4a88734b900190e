-- A word as its fields of k bits, the lowest first: what the byte-parallel functions inside the crate are promised by. Assumes nothing.
pub use Rattle.errors.specs.Answer.{flag}
use Rattle.std.specs.Prelude.{ℕ, zero, suc, ◌+◌, ◌*◌, ◌/◌, ◌%◌, ◌^◌, ◌<◌}

-- the field i of x
unfoldable pub digit : ℕ → ℕ → ℕ → ℕ
digit k x zero = x % 2 ^ k
digit k x (suc i) = digit k (x / 2 ^ k) i

-- the number whose n fields are f 0, f 1, ..
unfoldable pub word : ℕ → (ℕ → ℕ) → ℕ → ℕ
word k f zero = zero
word k f (suc n) = word k (λ i. f (suc i)) n * 2 ^ k + f zero

-- every byte of x is below 128
abbrev pub LowBytes : ℕ → Type 0
LowBytes x = (i : ℕ) → i < 8 → digit 8 x i < 128
