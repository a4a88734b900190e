-- What the questions of an opened image demand and find, inside the crate. i is an image. Assumes nothing.
use Rattle.std.specs.Prelude.{◌≡◌, List, Bool, ◌&&◌, ℕ, ◌+◌, ◌-◌, ◌%◌, ◌^◌, ◌≤◌, eqb, ltb}
use Rattle.broadword.specs.Bits.{count}
use Rattle.broadword.specs.Fields.{word}
use Rattle.bit_words.specs.Vector.{bit_at}
use Rattle.elias_fano.specs.declared.image.Parts.{Parts}
use Rattle.elias_fano.specs.Opening.{Open, high_part}

-- the 17 bits before a place are ones
abbrev pub crowded : List ℕ → ℕ → Bool
crowded ws x = ltb 16 x && eqb (word 1 (λ j. bit_at ws (x - 17 + j)) 64 % 2 ^ 17) (2 ^ 17 - 1)

-- as many ones as values before the one with the number k stand before a place of the high bits
pub record Behind (i : List ℕ) (p : Parts) (k x : ℕ) : Type 0 where
  pub opened : Open i p
  pub before : count (bit_at (high_part i p)) x ≡ k
  pub upto : x ≤ p.high_len
