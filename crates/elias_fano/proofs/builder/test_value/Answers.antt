-- `elias_fano::builder::test_value` meets its contract.
-- Assumes nothing.
use mathlib.Core.Path.{◌∙◌}
use native.Mathlib.Omega.{arith}
use Rattle.elias_fano.proofs.Cases as cases
use Rattle.elias_fano.proofs.Testing as testing
use Rattle.elias_fano.proofs.builder.test_value.Goals as goal

pub returns-then-val-b : goal.returns-then-val-b
returns-then-val-b c = testing.others _ _ _ c.requires _ ∙ cases.time_4 _ _ c.if-val-b.true

pub returns-then-val-b-2 : goal.returns-then-val-b-2
returns-then-val-b-2 c = testing.others _ _ _ c.requires _ ∙ cases.time_5 c.args.b c.args.val (omega arith) (omega arith)

pub returns-then-b : goal.returns-then-b
returns-then-b c = testing.others _ _ _ c.requires _ ∙ cases.time_6 c.args.b c.args.val (omega arith) (omega arith) (omega arith)
