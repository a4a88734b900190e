-- `elias_fano_walk::walk::next` meets its contract.
-- Assumes nothing.
use Rattle.elias_fano_walk.proofs.Walked as walked
use Rattle.elias_fano_walk.proofs.walk.next.Goals as goal

pub returns-then-w-image : goal.returns-then-w-image
returns-then-w-image c = (c.requires, walked.stepped_none c.args.image.now.words.now c.args.image.now.ok c.args.image.now.parts c.args.image.now.right c.args.w.number c.if-w-image.true)

pub returns : goal.returns
returns c =
    let t = c.take-t.ensures in
    (t.0, walked.stepped_some c.args.image.now.words.now c.args.image.now.ok c.args.image.now.parts c.args.image.now.right c.args.w.number _ _ c.if-w-image.false t.1 t.2)
