-- `darray::pending::load_from` meets its contract.
-- Assumes nothing.
use Prim.Native.Nat.{◌+◌, ◌-◌}
use native.Mathlib.Omega.{arith}
use Rattle.bit_words.specs.Vector.{bit_over}
use Rattle.darray_positions.specs.Scan.{Ahead}
use Rattle.darray_positions.proofs.Blocks as block
use Rattle.darray_positions.proofs.Counts as counts
use Rattle.darray.proofs.pending.load_from.Goals as goal

pub overflow_add-k : goal.overflow_add-k
overflow_add-k c =
    let a = c.args in
    let n = c.requires.inside in
    omega (arith, n.there, n.few, counts.count_few a.over_one a.words.now n.bits)

pub is_far-requires : goal.is_far-requires
is_far-requires c =
    let a = c.args in
    let p = c.requires in
    let h : Ahead (bit_over a.over_one a.words.now) a.h.cursor (a.k + (a.size - 1)) = block.ahead_le _ _ a.k _ (omega arith) p.hits.ahead in
    (h, (counts.ranging a.over_one a.words.now (a.k + (a.size - 1)) p.inside a.h.cursor h).upto)

pub overflow_add-k-then-is_far : goal.overflow_add-k-then-is_far
overflow_add-k-then-is_far c =
    let a = c.args in
    let n = c.requires.inside in
    omega (arith, n.there, n.few, counts.count_few a.over_one a.words.now n.bits)
