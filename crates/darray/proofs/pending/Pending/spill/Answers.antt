-- `darray::pending::Pending::spill` meets its contract.
-- Assumes nothing.
use mathlib.Core.Path.{sym, ap, ◌∙◌}
use mathlib.Core.Bool.{Bool, cond}
use Rattle.darray.specs.Pending.{block_spill}
use Rattle.darray.proofs.pending.Pending.spill.Goals as goal

pub returns-then-overflows : goal.returns-then-overflows
unfolding block_spill
returns-then-overflows c = ap (λ (w : Bool). cond w c.args.self.now.count 0) (sym c.if-overflows.true ∙ c.overflows.ensures)

pub returns-else-overflows : goal.returns-else-overflows
unfolding block_spill
returns-else-overflows c = ap (λ (w : Bool). cond w c.args.self.now.count 0) (sym c.if-overflows.false ∙ c.overflows.ensures)
