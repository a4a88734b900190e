-- `weekly_windows::order::part_starts` meets its contract. The invariant: the first `q` parts have their starts. Assumes nothing.
use Rattle.weekly_windows.proofs.Cutting as cutting
use Rattle.weekly_windows.proofs.order.part_starts.Given as goal

abbrev pub invariant-loop-q : goal.invariant-loop-q
invariant-loop-q l = cutting.Started l.cuts l.n l.first l.k l.q
