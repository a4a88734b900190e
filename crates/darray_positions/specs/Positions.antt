-- The positions of a run of bits: the places at which it is 1, in order. Assumes nothing.
use Rattle.std.specs.Prelude.{List, [], ◌∷◌, ◌++◌, Bool, cond, ℕ, zero, suc, eqb}
use Rattle.bit_words.specs.Vector.{bit_over}

-- the places below n at which f is 1
unfoldable pub places : (ℕ → ℕ) → ℕ → List ℕ
places f zero = []
places f (suc n) = cond (eqb (f n) 1) (places f n ++ (n ∷ [])) (places f n)

-- the positions of the ones (true) or the zeros (false) of a bit vector: none of them is padding
abbrev pub positions : Bool → List ℕ → ℕ → List ℕ
positions b ws len = places (bit_over b ws) len
