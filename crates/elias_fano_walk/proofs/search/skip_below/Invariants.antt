-- `elias_fano_walk::search::skip_below` meets its contract. The invariant: the values before the walk are below `val`, and as many steps are left as values.
-- Assumes nothing.
use mathlib.Core.Path.{◌≡◌}
use Rattle.elias_fano_walk.proofs.Searched as searched
use Rattle.elias_fano_walk.proofs.search.skip_below.Given as goal

abbrev pub invariant-loop-n : goal.invariant-loop-n
invariant-loop-n l = (l.w.number ≡ l._n) × searched.Skipping l.image.words.now l.image.parts l.val l.w
