-- `elias_fano::opened::Image::open` meets its contract.
-- Assumes nothing.
use Rattle.elias_fano.specs.Accept.{open_of}
use Rattle.elias_fano.proofs.Answers as answers
use Rattle.elias_fano.proofs.opened.Image.open.Goals as goal

pub invariant_of-result : goal.invariant_of-result
unfolding open_of
invariant_of-result c = let h = answers.opened _ _ c.in_ok-parts.ensures in record { ok = h.ok; right = h.parts }
