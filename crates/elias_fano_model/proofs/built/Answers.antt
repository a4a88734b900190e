-- `elias_fano_model::built` meets its contract.
-- Assumes nothing.
use Rattle.errors.specs.declared.Refusal.{Refusal}
use Rattle.std.specs.Prelude.{ℕ, Result}
use mathlib.Core.Path.{sym, ap}
use Rattle.elias_fano.specs.Made.{of_built}
use Rattle.elias_fano_model.proofs.built.Goals as goal

pub returns-in-Ok : goal.returns-in-Ok
returns-in-Ok c = λ w. ap (λ (p : Result ℕ Refusal). of_built c.args.b p w) (sym c.in-Ok.is)

pub returns-in-Err : goal.returns-in-Err
returns-in-Err c = λ w. ap (λ (p : Result ℕ Refusal). of_built c.args.b p w) (sym c.in-Err.is)
