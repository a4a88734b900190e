-- `darray::pending::Pending::lane` meets its contract.
-- Assumes nothing.
use mathlib.Core.Path.{sym, ◌∙◌}
use lib.Dec.{lit<}
use Rattle.darray.proofs.Flush as flush
use Rattle.darray.proofs.pending.Pending.lane.Goals as goal

pub returns-then-self-k : goal.returns-then-self-k
returns-then-self-k c = (sym (flush.lane_none _ _ _ c.if-self-k.true), lit< tt)

pub returns-then-wide : goal.returns-then-wide
returns-then-wide c = (sym (flush.lane_wide _ _ _ c.if-self-k.false (sym c.requires.3 ∙ c.if-wide.true)), lit< tt)

pub returns : goal.returns
returns c =
    let p = c.requires in
    let e = sym p.3 ∙ c.if-wide.false in
    (sym (flush.lane_near _ _ _ c.if-self-k.false e), flush.near_lt _ _ _ p.2 c.if-self-k.false e)
