-- What a walk over the values of an image demands and leaves. i is an image. Assumes nothing.
use Rattle.std.specs.Prelude.{◌≡◌, List, Bool, true, cond, ℕ, zero, suc, ◌+◌, ◌-◌, ◌*◌, ◌/◌, ◌%◌, ◌^◌, ◌≤◌, ◌<◌, ltb, length, take, drop}
use Rattle.errors.specs.Answer.{Answer, of_option}
use Rattle.broadword.specs.Bits.{count}
use Rattle.broadword.specs.Fields.{word}
use Rattle.bit_words.specs.Vector.{bit_at, bit_over}
use Rattle.bit_vectors.specs.Walk.{Walking}
use Rattle.bit_vectors.specs.declared.unary.Unary.{Unary}
use Rattle.elias_fano.specs.declared.image.Parts.{Parts}
use Rattle.elias_fano.specs.Ask.{Next, nth, ask}
use Rattle.elias_fano.specs.Opening.{OneAt, high_part}
use Rattle.elias_fano_walk.specs.declared.walk.Walk.{Walk}
use Rattle.elias_fano_walk.specs.declared.walk.One.{One}
use Rattle.elias_fano_walk.specs.declared.walk.ValueStep.{ValueStep}

-- of a walk over the ones, which has taken those before the number k: the place where its word begins, and what it has left of that word
pub record OnesAhead (i : List ℕ) (p : Parts) (k base rest : ℕ) : Type 0 where
  pub ones : Unary
  pub over : Walking (high_part i p) p.high_len ones
  pub before : count (bit_over true (high_part i p)) ones.from ≡ k
  pub stands : base ≡ ones.position / 64 * 64
  pub left : rest ≡ ones.buf

-- the low words, by the parts
abbrev pub low_part : List ℕ → Parts → List ℕ
low_part i p = take (p.ones_at - p.low_at) (drop p.low_at i)

-- x has the bits from the place pos on, as many as stand below its highest one
pub record LowsAhead (low : List ℕ) (pos x : ℕ) : Type 0 where
  pub many : ℕ
  pub top : x / 2 ^ many ≡ 1
  pub bits : (n : ℕ) → n ≤ many → pos + n ≤ length low * 64 → x % 2 ^ n ≡ word 1 (λ j. bit_at low (pos + j)) n

-- the high bits and the low bits of the values from the next on
pub record ValuesAhead (i : List ℕ) (p : Parts) (w : Walk) : Type 0 where
  pub ones : OnesAhead i p w.number w.base w.rest
  pub lows : LowsAhead (low_part i p) (w.number * p.low_len) w.lows

-- a walk as its beginning and each step leave it; at its end nothing is demanded of it
abbrev pub WalkOver : List ℕ → Parts → Walk → Type 0
WalkOver i p w = w.number < p.num_pushed → ValuesAhead i p w

-- the one of the next value is found, and the ones after it
pub record OneTaken (i : List ℕ) (p : Parts) (w : Walk) (r : One) : Type 0 where
  pub at : OneAt i p w.number r.place
  pub after : OnesAhead i p (suc w.number) r.base r.rest

-- what a step leaves: its answer, and the number of the next value
pub record Walked : Type 0 where
  pub answer : Answer
  pub number : ℕ

abbrev pub of_value_step : ValueStep → Walked
of_value_step r = record { answer = of_option r.value; number = r.walk.number }

-- at the end it stays
unfoldable pub value_step_of : List ℕ → ℕ → Walked
value_step_of T k = record { answer = nth T k; number = cond (ltb k (length T)) (suc k) k }

-- the answer of the j-th step of a walk from the number k on, counted from 0
unfoldable pub walked : List ℕ → ℕ → ℕ → Answer
walked T k zero = (value_step_of T k).answer
walked T k (suc j) = walked T (value_step_of T k).number j

-- each step is the question `Next`: the values from k on, then none, and none again
abbrev pub Walks : Type 0
Walks = (u n : ℕ) (c : Bool) (T : List ℕ) (k j : ℕ) → walked T k j ≡ ask u n c T (Next k j)
