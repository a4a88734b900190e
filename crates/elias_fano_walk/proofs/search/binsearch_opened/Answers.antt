-- `elias_fano_walk::search::binsearch_opened` meets its contract.
-- Assumes nothing.
use Rattle.elias_fano_walk.proofs.Searched as searched
use Rattle.elias_fano_walk.proofs.search.binsearch_opened.Goals as goal

pub returns : goal.returns
returns c = searched.search_all c.args.image.now.words.now c.args.image.now.ok c.args.image.now.parts c.args.image.now.right c.args.val _ c.binsearch_range_opened.ensures
