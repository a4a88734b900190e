-- `weekly_windows::order::in_form` meets its contract. The invariant: the words from the pair `k` on are in form if all are.
-- Assumes nothing.
use mathlib.Core.Path.{◌≡◌}
use Prim.Native.Nat.{◌*◌}
use lib.ListN.{drop}
use Rattle.weekly_windows.specs.Windows.{in_form}
use Rattle.weekly_windows.proofs.order.in_form.Given as goal

abbrev pub invariant-loop-k : goal.invariant-loop-k
invariant-loop-k l = in_form l.words ≡ in_form (drop (2 * l.k) l.words)
