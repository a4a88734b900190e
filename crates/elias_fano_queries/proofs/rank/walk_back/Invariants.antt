-- `elias_fano_queries::rank::walk_back` meets its contract.
-- Assumes nothing.
use Prim.Native.Nat.{◌≤◌}
use Rattle.elias_fano.specs.Accept.{times}
use Rattle.elias_fano.specs.Ask.{below}
use Rattle.elias_fano_queries.proofs.rank.walk_back.Given as goal

abbrev pub invariant-loop-i : goal.invariant-loop-i
invariant-loop-i l = (below l.val (times l.image.words.now) ≤ l.i) × (l.i ≤ l.end)
