-- `darray::pending::Pending::put_lanes` meets its contract.
-- Assumes nothing.
use Rattle.std.proofs.Common.{◌∙◌, sym, ap, ap₂, List, ℕ, ◌+◌, add-one}
use Rattle.std.proofs.Math.ListN.{set}
use Rattle.darray.specs.Pending.{block_lane_word, put}
use Rattle.darray.proofs.Flush.{put_none, put_more}
use Rattle.darray.proofs.pending.Pending.put_lanes.Goals as goal

pub loop-t-init : goal.loop-t-init
loop-t-init c = sym (put_none _ _ _)

pub loop-t-preserved : goal.loop-t-preserved
loop-t-preserved c =
    let a = c.args in
    let t = c.loop-t.t in
    ap₂ (λ (o : List ℕ) (v : ℕ). set o (a.at + t) v) c.loop-t.invariant c.lane_word.ensures
    ∙ sym (ap (put a.out.now a.at (block_lane_word a.self.now.positions a.self.now.count)) (add-one t) ∙ put_more a.out.now a.at (block_lane_word a.self.now.positions a.self.now.count) t)
