-- A run as its loop makes it, one call after the other: what functions inside the crate are promised by. Assumes nothing.
use Rattle.std.specs.Prelude.{List, [], ◌∷◌, cond, ℕ, ◌+◌, ◌*◌, set}
use Rattle.errors.specs.Answer.{Answer, done}
use Rattle.elias_fano.specs.declared.builder.Builder.{Builder}
use Rattle.elias_fano_model.specs.Model.{Call}
use Rattle.elias_fano_model.specs.Demand3.{step_of, closes}
use Rattle.elias_fano_model.specs.Run.{kind_of, value_of, decode, Left, left, ended}

-- the answer with the number k is filed
unfoldable pub filed_at : List ℕ → ℕ → Answer → List ℕ
filed_at answers k a = set (set answers (2 * k) (kind_of a)) (2 * k + 1) (value_of a)

-- what is left by the calls, from the builder b, the words w and k answers on
unfoldable pub go_on : Builder → List ℕ → ℕ → List ℕ → List Call → Left
go_on b w k answers [] = left (ended b k) w answers
go_on b w k answers (x ∷ xs) =
    cond (closes (step_of b w x).answer)
    (left (ended (step_of b w x).builder (k + 1)) (step_of b w x).words (filed_at answers k (step_of b w x).answer))
    (go_on (step_of b w x).builder (step_of b w x).words (k + 1) (filed_at answers k (step_of b w x).answer) xs)

-- the start was accepted
abbrev pub went_on : Builder → List ℕ → List ℕ → List ℕ → Left
went_on b w answers calls = go_on b w 1 (filed_at answers 0 done) (decode calls)
