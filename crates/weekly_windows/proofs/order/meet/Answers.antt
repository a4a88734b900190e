-- `weekly_windows::order::meet` meets its contract: a law for each way. Assumes nothing.
use Rattle.weekly_windows.proofs.Inserting as inserting
use Rattle.weekly_windows.proofs.order.meet.Goals as goal

pub returns-then-d-x : goal.returns-then-d-x
returns-then-d-x c = inserting.met-before _ _ _ _ c.if-d-x.true

pub returns-then-y-c : goal.returns-then-y-c
returns-then-y-c c = inserting.met-after _ _ _ _ c.if-d-x.false c.if-y-c.true

pub returns : goal.returns
returns c = inserting.met-joined _ _ _ _ c.if-d-x.false c.if-y-c.false _ _ c.min.ensures c.max.ensures
