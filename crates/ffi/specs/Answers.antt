-- The structs of the library in document 01's terms. Assumes nothing.
use Rattle.errors.specs.declared.Refusal.{Refusal}
use Rattle.std.specs.Prelude.{◌≡◌, List, cond, ℕ, eqb, Result}
use Rattle.errors.specs.Answer.{Answer, value, none, done, refused}
use Rattle.elias_fano.specs.declared.builder.Builder.{Builder}
use Rattle.elias_fano.specs.Accept.{Opening, parts, unopened}
use Rattle.elias_fano.specs.Made.{made, builder, of_pushed}
use Rattle.sarray.specs.Opened.{SparseOpening, vector, no_vector}
use Rattle.ffi.specs.declared.EfAnswer.{EfAnswer}
use Rattle.ffi.specs.declared.EfBuilder.{EfBuilder}
use Rattle.ffi.specs.declared.EfPushed.{EfPushed}

abbrev pub of_builder : EfBuilder → Builder
of_builder b = builder b.universe b.num_vals b.num_pushed b.last

-- 0 is no refusal
abbrev pub of_refusal : ℕ → Answer
of_refusal k = cond (eqb k 0) done (refused k)

-- the kinds 0, 1 and 2 with a value, 0, or a refusal's number; no call that answers so is only done
abbrev pub ef_answer : Answer → EfAnswer
ef_answer (value k) = record { kind = 0; value = k }
ef_answer none = record { kind = 1; value = 0 }
ef_answer (refused k) = record { kind = 2; value = k }
ef_answer done = record { kind = 3; value = 0 }

-- 0 for an accepted image, or the refusal's number
abbrev pub ef_opened : Opening → ℕ
ef_opened (parts p) = 0
ef_opened (unopened k) = k

-- the same of a sparse vector
abbrev pub ef_sparse : SparseOpening → ℕ
ef_sparse (vector v) = 0
ef_sparse (no_vector k) = k

-- a start or a reading, told
abbrev pub Told : EfBuilder → Result Builder Refusal → EfPushed → Type 0
Told b p r = (w : List ℕ) → made (of_refusal r.refusal) (of_builder r.builder) w ≡ of_pushed (of_builder b) p w
