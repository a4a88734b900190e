-- `weekly_windows::order::insert` meets its contract. The invariant: what is written, and the rest with the window that goes on, are the windows with the new one.
-- Assumes nothing.
use Prim.Native.Nat.{◌*◌}
use Rattle.weekly_windows.proofs.Inserting as inserting
use Rattle.weekly_windows.proofs.order.insert.Given as goal

abbrev pub invariant-loop-k : goal.invariant-loop-k
invariant-loop-k l = inserting.Inserts l.initial.cuts l.len l.a l.b l.cuts l.x l.y l.n (2 * l.k)
