-- The measure of `halve_high` is what is left of the range.
use Rattle.std.proofs.Common.{◌-◌}
use Rattle.elias_fano_walk.proofs.search.+halve_high.Given as goal

abbrev pub decreases-halve_high : goal.decreases-halve_high
decreases-halve_high l = l.b - l.a
