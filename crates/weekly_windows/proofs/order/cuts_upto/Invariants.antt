-- `weekly_windows::order::cuts_upto` meets its contract. The invariant: the cuts before `k` are at or below `r`. The measure: how many are left.
-- Assumes nothing.
use Prim.Native.Nat.{◌-◌, ◌≤◌}
use Rattle.weekly_windows.specs.Ordering.{AllUpto}
use Rattle.weekly_windows.proofs.order.cuts_upto.Given as goal

abbrev pub invariant-loop-k : goal.invariant-loop-k
invariant-loop-k l = (l.k ≤ l.n) × AllUpto l.cuts l.r l.k

abbrev pub decreases-loop-k : goal.decreases-loop-k
decreases-loop-k l = l.n - l.k
