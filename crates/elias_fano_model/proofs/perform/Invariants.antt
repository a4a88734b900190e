-- `elias_fano_model::perform` meets its contract.
-- Assumes nothing.
use mathlib.Core.Path.{◌≡◌}
use Prim.Native.Nat.{◌+◌, ◌*◌}
use lib.ListN.{length, drop}
use Rattle.elias_fano_model.specs.Run.{decode}
use Rattle.elias_fano_model.specs.Going.{go_on}
use Rattle.elias_fano_model.proofs.perform.Given as goal

abbrev pub invariant-loop-k : goal.invariant-loop-k
invariant-loop-k l =
    (length l.buffer ≡ length l.initial.buffer) × (length l.answers ≡ length l.initial.answers)
    × (go_on l.b l.buffer (l.k + 1) l.answers (decode (drop (2 * l.k) l.calls)) ≡ go_on l.initial.b l.initial.buffer 1 l.initial.answers (decode l.calls))
