-- `darray_positions::scan::find_near` meets its contract: the word at which `advance` stops has the position.
-- Assumes nothing.
use Rattle.darray_positions.proofs.Counts as scan
use Rattle.darray_positions.proofs.scan.find_near.Goals as goal

pub advance-cursor-requires : goal.advance-cursor-requires
advance-cursor-requires c =
    (c.requires.0, scan.ranging c.args.over_one c.args.words.now c.args.k c.requires.1 c.args.from c.requires.0)

pub place_at-requires : goal.place_at-requires
place_at-requires c =
    let r = scan.reached c.args.over_one c.args.words.now c.args.k c.requires.1 c.args.from c.advance-cursor.result c.advance-cursor.ensures in
    (c.advance-cursor.ensures.ahead, r.0, r.1, r.2)
