-- What a call answers, in document 01's terms: a value, a plain none, that it is done, or a refusal by its number.
-- Every type that a public function returns has a definition that gives its cases so.
use Rattle.std.specs.Prelude.{List, Bool, true, false, ℕ, ⊤, Option, Some, None, Result, Ok, Err}
use Rattle.errors.specs.declared.Refusal.{Refusal}
use Rattle.errors.specs.Refusal.{number_of}

pub data Answer : Type 0 where
  value : ℕ → Answer
  none : Answer
  done : Answer
  refused : ℕ → Answer

-- what a call that may alter words leaves: its answer and every word lent
pub record Outcome : Type 0 where
  pub answer : Answer
  pub words : List ℕ

abbrev pub leaves : Answer → List ℕ → Outcome
leaves a w = record { answer = a; words = w }

-- what a call leaves whose tests say `done` or refuse, and whose work leaves o: a refusal leaves the words as they were
abbrev pub passing : Answer → List ℕ → Outcome → Outcome
passing done w o = o
passing (refused k) w o = leaves (refused k) w
passing (value k) w o = leaves (value k) w
passing none w o = leaves none w

-- ---- the cases of each type

-- a test as a bit
abbrev pub flag : Bool → ℕ
flag true = 1
flag false = 0

-- where f says what a value answers

abbrev pub answer_if : {T : Type 0} → (T → Answer) → Option T → Answer
answer_if f (Some x) = f x
answer_if f None = none

abbrev pub answer_or : {T : Type 0} → (T → Answer) → Result T Refusal → Answer
answer_or f (Ok x) = f x
answer_or f (Err e) = refused (number_of e)

abbrev pub of_bool : Bool → Answer
of_bool b = value (flag b)

abbrev pub of_option : Option ℕ → Answer
of_option = answer_if value

abbrev pub of_result : Result ℕ Refusal → Answer
of_result = answer_or value

abbrev pub of_optional : Result (Option ℕ) Refusal → Answer
of_optional = answer_or of_option

abbrev pub of_truth : Result Bool Refusal → Answer
of_truth = answer_or of_bool

abbrev pub of_bit : Result (Option Bool) Refusal → Answer
of_bit = answer_or (answer_if of_bool)

abbrev pub of_done : Result ⊤ Refusal → Answer
of_done = answer_or (λ x. done)
