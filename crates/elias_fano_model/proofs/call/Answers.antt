-- `elias_fano_model::call` meets its contract.
-- Assumes nothing.
use mathlib.Core.Path.{◌∙◌}
use Rattle.elias_fano_model.proofs.Running.{call_push, call_build}
use Rattle.elias_fano_model.proofs.call.Goals as goal

pub returns-then-kind-eq0 : goal.returns-then-kind-eq0
returns-then-kind-eq0 c = c.pushed.ensures _ ∙ c.push.ensures ∙ call_push c.args.kind c.args.arg c.args.b c.args.buffer.now c.if-kind-eq0.true

pub returns : goal.returns
returns c = c.built.ensures _ ∙ c.build.ensures ∙ call_build c.args.kind c.args.arg c.args.b c.args.buffer.now c.if-kind-eq0.false
