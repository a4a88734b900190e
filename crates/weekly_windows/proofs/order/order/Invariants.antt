-- `weekly_windows::order::order` meets its contract. The invariant: the first `k` windows are in order.
-- Assumes nothing.
use Prim.Native.Nat.{◌*◌}
use Rattle.weekly_windows.proofs.Inserting as inserting
use Rattle.weekly_windows.proofs.order.order.Given as goal

abbrev pub invariant-loop-k : goal.invariant-loop-k
invariant-loop-k l = inserting.Orders l.windows l.cuts l.n (2 * l.k)
