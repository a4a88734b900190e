-- `elias_fano_walk::search::high_section` meets its contract.
-- Assumes nothing.
use mathlib.Core.Bool.{true}
use native.Mathlib.Omega.{arith}
use Rattle.broadword.proofs.Find.{selected}
use Rattle.bit_words.specs.Vector.{bit_over}
use Rattle.bit_words.proofs.Runs.{bit_over_le}
use Rattle.bit_words.proofs.Valid.{valid}
use Rattle.elias_fano_walk.proofs.Halved as halved
use Rattle.elias_fano_walk.proofs.search.high_section.Goals as goal

pub overflow_sub-zeros : goal.overflow_sub-zeros
overflow_sub-zeros c = halved.past-number (bit_over true c.args.high.now) (bit_over_le true c.args.high.now) c.args.len _ _ c.select_within-place.ensures

pub ones_before-ones-requires : goal.ones_before-ones-requires
ones_before-ones-requires c = omega (arith, (valid _ _ c.requires.0.ok).room, (selected _ _ _ _ c.select_within-place.ensures).within)

pub returns-then-wanted-zeros : goal.returns-then-wanted-zeros
returns-then-wanted-zeros c =
    let few = c.if-ones-ge-SUBBLOCK_LEN.false in
    let run = c.ones_before-ones.ensures (omega (arith, few)) in
    halved.high_until (bit_over true c.args.high.now) (bit_over_le true c.args.high.now) c.args.len c.args.wanted c.args.a c.args.b c.requires.1 _ _ _ c.select_within-place.ensures run (omega (arith, few)) (omega (arith, c.if-b-a-le-SUBBLOCK_LEN.false)) _ c.select_within-first.ensures c.if-wanted-zeros.true

pub overflow_sub-result-3 : goal.overflow_sub-result-3
overflow_sub-result-3 c = omega (arith, c.if-ones-ge-SUBBLOCK_LEN.false, (c.ones_before-ones.ensures (omega (arith, c.if-ones-ge-SUBBLOCK_LEN.false))).upto)

pub returns : goal.returns
returns c =
    let few = c.if-ones-ge-SUBBLOCK_LEN.false in
    let run = c.ones_before-ones.ensures (omega (arith, few)) in
    halved.high_from_lem (bit_over true c.args.high.now) (bit_over_le true c.args.high.now) c.args.len c.args.wanted c.args.a c.args.b c.requires.1 _ _ _ c.select_within-place.ensures run (omega (arith, few)) (omega (arith, c.if-b-a-le-SUBBLOCK_LEN.false)) (omega (arith, c.if-wanted-zeros.false, c.if-zeros-wanted.false))
