-- `elias_fano_model::file` meets its contract.
-- Assumes nothing.
use mathlib.Core.Path.{ap₂}
use Prim.Native.Nat.{ℕ, ◌+◌, ◌*◌}
use lib.ListN.{set}
use Rattle.elias_fano_model.specs.Going.{filed_at}
use Rattle.elias_fano_model.proofs.file.Goals as goal

pub returns : goal.returns
unfolding filed_at
returns c = ap₂ (λ (a b : ℕ). set (set c.args.answers.now (2 * c.args.k) a) (2 * c.args.k + 1) b) c.kind_of.ensures c.value_of.ensures
