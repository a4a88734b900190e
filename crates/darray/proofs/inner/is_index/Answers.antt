-- `darray::inner::is_index` meets its contract.
-- Assumes nothing.
use Rattle.std.proofs.Common.{arith, length}
use Rattle.darray.proofs.Comparing as comparing
use Rattle.darray.proofs.Matching.{it_is_not}
use Rattle.darray_positions.proofs.Counts.{count_few}
use Rattle.darray.proofs.inner.is_index.Goals as goal

pub sizes_by-least-requires : goal.sizes_by-least-requires
sizes_by-least-requires c = omega (arith, count_few c.args.over_one c.args.words.now c.args.len)

pub returns-then-index-fixed : goal.returns-then-index-fixed
returns-then-index-fixed c =
    let t = comparing.least_is c.args.n c.total-fixed.result c.sizes_by-least.result c.sizes_by-least.ensures c.total-fixed.ensures in
    it_is_not (comparing.too_short c.args.over_one c.args.words.now c.args.len c.args.n c.requires.2 c.args.index.now (omega arith))

pub matches-requires : goal.matches-requires
matches-requires c =
    comparing.left_over c.args.over_one c.args.words.now c.args.len c.args.n c.total-fixed.result (length c.args.index.now) c.sizes_by-least.result c.requires.0 c.requires.1 c.requires.2 c.sizes_by-least.ensures c.total-fixed.ensures c.if-index-fixed.false
