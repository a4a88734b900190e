-- `elias_fano_model::pushed` meets its contract.
-- Assumes nothing.
use Rattle.elias_fano.specs.declared.builder.Builder.{Builder}
use Rattle.errors.specs.declared.Refusal.{Refusal}
use Rattle.std.specs.Prelude.{Result}
use mathlib.Core.Path.{sym, ap}
use Rattle.elias_fano.specs.Made.{of_pushed}
use Rattle.elias_fano_model.proofs.pushed.Goals as goal

pub returns-in-Ok : goal.returns-in-Ok
returns-in-Ok c = λ w. ap (λ (p : Result Builder Refusal). of_pushed c.args.b p w) (sym c.in-Ok.is)

pub returns-in-Err : goal.returns-in-Err
returns-in-Err c = λ w. ap (λ (p : Result Builder Refusal). of_pushed c.args.b p w) (sym c.in-Err.is)
