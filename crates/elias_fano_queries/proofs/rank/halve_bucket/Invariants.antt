-- `elias_fano_queries::rank::halve_bucket` meets its contract.
-- Assumes nothing.
use Prim.Native.Nat.{◌-◌, ◌≤◌}
use Rattle.elias_fano.specs.Accept.{times}
use Rattle.elias_fano.specs.Ask.{below}
use Rattle.elias_fano_queries.proofs.rank.halve_bucket.Given as goal

abbrev pub invariant-loop-from : goal.invariant-loop-from
invariant-loop-from l = (l.first ≤ l.from) × (l.from ≤ below l.val (times l.image.words.now)) × (below l.val (times l.image.words.now) ≤ l.to) × (l.to ≤ l.end)

abbrev pub decreases-loop-from : goal.decreases-loop-from
decreases-loop-from l = l.to - l.from
