-- What `?` hands on of a refusal. Assumes nothing.
use mathlib.Core.Path.{◌≡◌, ap}
use Rattle.std.specs.Prelude.{Result, Ok, Err, IsErrAnd}
use Rattle.errors.specs.declared.Refusal.{Refusal}

-- it is handed on as it is
pub refused_so : {A : Type 0} (r : Result A Refusal) (e : Refusal) → IsErrAnd r (λ x. x ≡ e) → r ≡ Err e
refused_so (Ok x) e h = absurd h
refused_so (Err x) e h = ap Err h
