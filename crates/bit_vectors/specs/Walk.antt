-- The unary walk. `from` is the first place not yet taken; `position` is the start, then the last place given, and the length once a none was
-- given, which ends the walk. A step goes on from `from`: to the one (or the zero) that k of its kind stand before from there on. Assumes nothing.
use Rattle.errors.specs.declared.Refusal.{Refusal}
use Rattle.std.specs.Prelude.{◌≡◌, List, Bool, true, false, cond, ℕ, ◌+◌, ◌-◌, ◌*◌, ◌/◌, ◌^◌, ◌≤◌, leb, get_or, take, Ok, Err, Some, None, Result, Option}
use Rattle.errors.specs.Refusal.{number_of}
use Rattle.errors.specs.Answer.{Answer, value, none, refused, of_optional}
use Rattle.broadword.specs.Bits.{count}
use Rattle.broadword.specs.Places.{select}
use Rattle.bit_words.specs.Vector.{bit_over, words_for, invalid}
use Rattle.bit_vectors.specs.declared.unary.Unary.{Unary}
use Rattle.bit_vectors.specs.declared.unary.Stepped.{Stepped}

-- of the word of `position`, the bits from the place `from` on
unfoldable pub rest_of : List ℕ → ℕ → ℕ → ℕ → ℕ
rest_of ws len position from = get_or (take (words_for len) ws) (position / 64) 0 / 2 ^ (from - position / 64 * 64) * 2 ^ (from - position / 64 * 64)

abbrev pub walk_at : List ℕ → ℕ → ℕ → ℕ → Unary
walk_at ws len position from = record { position = position; from = from; buf = rest_of ws len position from }

-- how a walk begins: with its state, or with a refusal
pub data WalkBegun : Type 0 where
  begun : Unary → WalkBegun
  refused_by : ℕ → WalkBegun

abbrev pub of_started : Result Unary Refusal → WalkBegun
of_started (Ok w) = begun w
of_started (Err e) = refused_by (number_of e)

unfoldable pub walk_new_of : List ℕ → ℕ → ℕ → WalkBegun
walk_new_of ws len start = cond (invalid ws len) (refused_by 13) (cond (leb (words_for len) (start / 64)) (refused_by 16) (begun (walk_at ws len start start)))

-- what a step leaves: its answer and the walk
pub record Step : Type 0 where
  pub answer : Answer
  pub walk : Unary

abbrev pub step : Answer → Unary → Step
step a w = record { answer = a; walk = w }

abbrev pub of_stepped : Stepped → Step
of_stepped r = step (of_optional r.place) r.walk

-- a place is given, and taken (1) or not (0); a none ends the walk
abbrev pub given : List ℕ → ℕ → ℕ → Option ℕ → Step
given ws len taken (Some p) = step (value p) (walk_at ws len p (p + taken))
given ws len taken None = step none (walk_at ws len len len)

module _ (ws : List ℕ) (len : ℕ) (w : Unary) where
  unfoldable pub walk_step_of : Bool → ℕ → ℕ → Step
  walk_step_of b taken k =
      cond (invalid ws len) (step (refused 13) w)
      (given ws len taken (select (bit_over b ws) len (count (bit_over b ws) w.from + k)))

  abbrev pub next_of : Step
  next_of = walk_step_of true 1 0

  abbrev pub skip1_of : ℕ → Step
  skip1_of k = walk_step_of true 0 k

  abbrev pub skip0_of : ℕ → Step
  skip0_of k = walk_step_of false 0 k

  -- a walk over these bits, as `new` and each step leave it
  pub record Walking : Type 0 where
    pub ok : invalid ws len ≡ false
    pub behind : w.position ≤ w.from
    pub near : w.from ≤ w.position + 1
    pub rest : w.buf ≡ rest_of ws len w.position w.from
