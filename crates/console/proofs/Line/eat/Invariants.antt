-- `console::Line::eat` is safe and ends. Each line ends further on. Assumes nothing.
use Rattle.std.proofs.Common.{◌-◌, length}
use Rattle.console.proofs.Line.eat.Given as goal

abbrev pub decreases-loop-at : goal.decreases-loop-at
decreases-loop-at l = length l.input - l.at
