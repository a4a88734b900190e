-- What a call on a builder leaves: its answer in document 01's terms, the builder and every word lent. Assumes nothing.
use Rattle.errors.specs.declared.Refusal.{Refusal}
use Rattle.std.specs.Prelude.{List, ℕ, Ok, Err, Result}
use Rattle.errors.specs.Answer.{Answer, value, done, refused}
use Rattle.errors.specs.Refusal.{number_of}
use Rattle.elias_fano.specs.declared.builder.Builder.{Builder}

pub record Made : Type 0 where
  pub answer : Answer
  pub builder : Builder
  pub words : List ℕ

abbrev pub made : Answer → Builder → List ℕ → Made
made a b w = record { answer = a; builder = b; words = w }

abbrev pub builder : ℕ → ℕ → ℕ → ℕ → Builder
builder u n m t = record { universe = u; num_vals = n; num_pushed = m; last = t }

-- before a start
abbrev pub nobody : Builder
nobody = builder 0 0 0 0

-- ---- the cases of each answer, in document 01's terms: what is refused leaves the builder that was handed in

abbrev pub of_pushed : Builder → Result Builder Refusal → List ℕ → Made
of_pushed b (Ok c) w = made done c w
of_pushed b (Err e) w = made (refused (number_of e)) b w

abbrev pub of_built : Builder → Result ℕ Refusal → List ℕ → Made
of_built b (Ok k) w = made (value k) b w
of_built b (Err e) w = made (refused (number_of e)) b w

-- of a call that has no builder
