-- The bits of a word, and how many of a run of bits are ones. A run of bits is a function from places to 0 and 1, so a word, a slice of
-- words, its complement and a part of either are counted by one definition. Assumes nothing.
use Rattle.std.specs.Prelude.{ℕ, zero, suc, ◌+◌, ◌/◌, ◌%◌, ◌^◌}

-- the bit of w at the place i, counted from the lowest
unfoldable pub bit : ℕ → ℕ → ℕ
bit w i = w / 2 ^ i % 2

-- the ones of f at the places below n: the rank of n
unfoldable pub count : (ℕ → ℕ) → ℕ → ℕ
count f zero = zero
count f (suc n) = count f n + f n

-- the ones among the n lowest bits of w
abbrev pub ones : ℕ → ℕ → ℕ
ones w n = count (bit w) n
