-- The sum by which a stored record is checked, and what is claimed of it. Assumes nothing.
use Rattle.std.specs.Prelude.{◌≡◌, ℕ, ◌+◌, ◌*◌, ◌%◌, ◌^◌, ◌<◌, List, [], ◌∷◌, length, ◌≢◌, slice_index, slice_set}
use Rattle.elias_fano.specs.declared.builder.Builder.{Builder}

-- a word more
unfoldable pub sum_with : ℕ → ℕ → ℕ
sum_with c w = (c * 1099511628211 + w) % 2 ^ 64

unfoldable pub sum_from : ℕ → List ℕ → ℕ
sum_from c [] = c
sum_from c (w ∷ ws) = sum_from (sum_with c w) ws

-- of a builder's four numbers and then the words
unfoldable pub sum_of : Builder → List ℕ → ℕ
sum_of b ws = sum_from 1 (b.universe ∷ b.num_vals ∷ b.num_pushed ∷ b.last ∷ ws)

-- words of 64 bits with one of them changed have another sum
unfoldable pub SeesOne : Type 0
SeesOne =
    (ws : List ℕ) (i v : ℕ) → ((k : ℕ) → slice_index ws k < 2 ^ 64) → v < 2 ^ 64 → i < length ws → (v ≢ slice_index ws i)
    → sum_from 1 (slice_set ws i v) ≡ sum_from 1 ws
    → ⊥
