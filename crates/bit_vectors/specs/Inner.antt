-- What the inner functions of the walk find. No public promise rests on these. Assumes nothing.
use Rattle.std.specs.Prelude.{◌≡◌, List, true, cond, ℕ, ◌+◌, ◌*◌, ◌/◌, ◌^◌, ◌<◌, ltb, Some, None}
use Rattle.broadword.specs.Bits.{bit, count}
use Rattle.broadword.specs.Places.{select}
use Rattle.bit_words.specs.Vector.{bit_over}
use Rattle.bit_vectors.specs.Walk.{rest_of, Step, given}

-- the walk stops on a place below the length, and else ends
abbrev pub stop_at : List ℕ → ℕ → ℕ → Step
stop_at ws len place = cond (ltb place len) (given ws len 0 (Some place)) (given ws len 0 None)

-- what is ahead of a walk at `from`: the lowest one of x, which is left of the word `at`, and nothing where x is 0
pub record OneAhead (ws : List ℕ) (len from at x : ℕ) : Type 0 where
  pub small : x < 2 ^ 64
  pub nothing : x ≡ 0 → select (bit_over true ws) len (count (bit_over true ws) from + 0) ≡ None
  pub place : (t : ℕ) → select (bit x) 64 0 ≡ Some t
      → (at * 64 + t < len) × (select (bit_over true ws) len (count (bit_over true ws) from + 0) ≡ Some (at * 64 + t)) × (x / 2 ^ (t + 1) * 2 ^ (t + 1) ≡ rest_of ws len (at * 64 + t) (at * 64 + t + 1))
