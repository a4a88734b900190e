-- `elias_fano_walk::read::read_from_opened` meets its contract.
-- Assumes nothing.
use Rattle.elias_fano_walk.proofs.Reading as reading
use Rattle.elias_fano_walk.proofs.read.read_from_opened.Goals as goal

pub returns : goal.returns
returns c =
    let n = c.how_many-count in
    (reading.many c.args.image.now.words.now c.args.image.now.ok c.args.image.now.parts c.args.image.now.right c.args.k n.result c.args.out.now n.ensures, reading.fills c.args.image.now.words.now c.args.image.now.ok c.args.image.now.parts c.args.image.now.right c.args.k n.result c.args.out.now n.ensures _ _ c.begin-from.ensures.1 c.take_all.ensures)
