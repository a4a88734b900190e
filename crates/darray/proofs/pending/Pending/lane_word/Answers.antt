-- `darray::pending::Pending::lane_word` meets its contract.
-- Assumes nothing.
use mathlib.Core.Path.{◌≡◌, ap, ap₂, ◌∙◌}
use Prim.Native.Nat.{ℕ, ◌+◌, ◌*◌}
use native.Mathlib.Omega.{arith}
use Rattle.darray.specs.Pending.{block_lane, block_lane_word}
use Rattle.darray.proofs.Flush as flush
use Rattle.darray.proofs.pending.Pending.lane_word.Goals as goal

pub returns : goal.returns
unfolding block_lane_word
returns c =
    let a = c.args in
    let z : 4 * a.t ≡ 4 * a.t + 0 = omega arith in
    let e = c.lane.ensures.0 ∙ ap (block_lane a.self.now.positions a.self.now.count) z in
    let s = flush.four (λ i. block_lane a.self.now.positions a.self.now.count (4 * a.t + i)) in
    ap₂ (λ (x y : ℕ). x + y) (ap₂ (λ (x y : ℕ). x + y * 65536) e c.lane-2.ensures.0) (ap₂ (λ (x y : ℕ). (x + y * 65536) * 4294967296) c.lane-3.ensures.0 c.lane-4.ensures.0) ∙ s
