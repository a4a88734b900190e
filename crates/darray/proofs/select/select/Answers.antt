-- `darray::select::select` meets its contract.
-- Assumes nothing.
use Rattle.darray.proofs.Through as through
use Rattle.darray.proofs.select.select.Goals as goal

pub returns-then-positions-k : goal.returns-then-positions-k
returns-then-positions-k c = through.too_few c.args.words.now c.args.len c.args.over_one c.args.index.now c.args.positions c.requires c.args.k c.if-positions-k.true
