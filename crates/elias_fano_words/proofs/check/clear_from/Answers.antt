-- `elias_fano_words::check::clear_from` meets its contract.
-- Assumes nothing.
use native.Mathlib.Omega.{arith}
use Rattle.darray.proofs.Matching.{it_is, it_is_not}
use Rattle.elias_fano_words.proofs.Unset as unset
use Rattle.elias_fano_words.proofs.check.clear_from.Goals as goal

pub returns-then-used-at : goal.returns-then-used-at
returns-then-used-at c = it_is (unset.clear-past c.args.words.now (λ i. (c.shared_slice_known-1.given i).fits) c.args.pos c.last_used-used.result c.last_used-used.ensures c.if-used-at.true)

pub returns-then-used-at-2 : goal.returns-then-used-at-2
returns-then-used-at-2 c = it_is_not (unset.not_clear c.args.words.now (λ i. (c.shared_slice_known-1.given i).fits) c.args.pos c.last_used-used.result c.last_used-used.ensures (omega arith))

pub returns : goal.returns
returns c = unset.clear_part c.args.words.now (λ i. (c.shared_slice_known-1.given i).fits) c.args.pos c.last_used-used.result c.last_used-used.ensures c.if-used-at-2.false
