-- `darray::inner::overflow_of` meets its contract.
-- Assumes nothing.
use Rattle.std.proofs.Common.{arith, ◌≡◌, ap, ◌∙◌, ◌+◌, ◌*◌, ◌/◌}
use Rattle.broadword.proofs.Count.{count_mono}
use Rattle.bit_words.specs.Vector.{bit_over}
use Rattle.darray_positions.specs.Positions.{positions}
use Rattle.darray_positions.specs.Index.{before}
use Rattle.darray_positions.proofs.Blocks as block
use Rattle.darray_positions.proofs.Index as index
use Rattle.darray.proofs.inner.overflow_of.Goals as goal

pub spilled-overflow-requires : goal.spilled-overflow-requires
spilled-overflow-requires c = block.span_rises c.args.over_one c.args.words.now c.args.len c.args.n c.requires.2 c.loop-j.j c.ends-s.result (omega arith) c.ends-s.ensures

pub overflow_add-overflow : goal.overflow_add-overflow
overflow_add-overflow c =
    let a = c.args in
    let next = block.before_more a.over_one a.words.now a.len a.n c.requires.2 c.loop-j.j c.ends-s.result (omega arith) c.ends-s.ensures c.loop-j.overflow c.spilled-overflow.result c.block_size.result c.loop-j.invariant.0 c.block_size.ensures c.spilled-overflow.ensures in
    omega (arith, next, index.before_le (positions a.over_one a.words.now a.len) (c.loop-j.j + 1), block.length_is a.over_one a.words.now a.len a.n c.requires.2, c.ranges)

pub loop-j-preserved : goal.loop-j-preserved
loop-j-preserved c =
    let a = c.args in (
      block.before_more a.over_one a.words.now a.len a.n c.requires.2 c.loop-j.j c.ends-s.result (omega arith) c.ends-s.ensures c.loop-j.overflow c.spilled-overflow.result c.block_size.result c.loop-j.invariant.0 c.block_size.ensures c.spilled-overflow.ensures,
      block.ahead_le _ _ _ _ (omega arith) c.ends-s.ensures.next,
    )

pub returns : goal.returns
returns c =
    let a = c.args in
    let p = c.requires in
    let m = count_mono (bit_over a.over_one a.words.now) (a.len / 64 * 64) a.len (omega arith) in
    let e : c.loop-j.j ≡ (a.n + 1023) / 1024 = omega (arith, p.3.there, p.3.counted, p.2, m) in
    c.loop-j.invariant.0 ∙ ap (before (positions a.over_one a.words.now a.len)) e
