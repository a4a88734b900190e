-- `console::walk::walked` is safe and ends. Each step ends further on. Assumes nothing.
use Rattle.std.proofs.Common.{◌-◌, length}
use Rattle.console.proofs.walk.walked.Given as goal

abbrev pub decreases-loop-at : goal.decreases-loop-at
decreases-loop-at l = length l.line - l.at
