-- The measure of `halve_range` is what is left of the range.
use Rattle.std.proofs.Common.{◌-◌}
use Rattle.elias_fano_walk.proofs.search.+halve_range.Given as goal

abbrev pub decreases-halve_range : goal.decreases-halve_range
decreases-halve_range l = l.b - l.a
