-- `elias_fano::image::select_opened` meets its contract.
-- Assumes nothing.
use Rattle.elias_fano.proofs.Selecting as selecting
use Rattle.elias_fano.proofs.image.select_opened.Goals as goal

pub returns-then-k-image : goal.returns-then-k-image
returns-then-k-image c = selecting.no_time c.args.image.now.words.now c.args.image.now.ok c.args.image.now.parts c.args.image.now.right c.args.k c.if-k-image.true

pub returns : goal.returns
returns c = selecting.is_value c.args.image.now.words.now c.args.image.now.ok c.args.image.now.parts c.args.image.now.right c.args.k c.if-k-image.false _ c.value_of.ensures
