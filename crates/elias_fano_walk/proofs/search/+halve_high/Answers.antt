-- `elias_fano_walk::search::halve_high` meets its contract. Assumes nothing.
use Rattle.std.proofs.Common.{◌+◌, ◌-◌, ◌*◌, ◌/◌, ◌<◌, true, false, ltb, refl, arith}
use borrow.Author.Tests.{lt-ltb, le-ltb}
use Rattle.bit_words.specs.Vector.{bit_over}
use Rattle.bit_words.proofs.Runs.{bit_over_le}
use Rattle.elias_fano_walk.proofs.Halved as halved
use Rattle.elias_fano_walk.proofs.search.+halve_high.Goals as goal
use Rattle.elias_fano_walk.proofs.search.+halve_high.Goals.{then-below, else-below, then-below-2, else-below-2}

pub overflow_sub-below : goal.overflow_sub-below
overflow_sub-below t c = halved.past-number (bit_over true c.args.high.now.now) (bit_over_le true c.args.high.now.now) c.args.len _ _ c.select_within-place.ensures

pub halve_high-requires : goal.halve_high-requires
halve_high-requires t c =
    let h : 64 < c.args.b - c.args.a = c.if-b-a-le-LINEAR_SCAN_THRESHOLD.false in
    let below = ltb (c.select_within-place.result - ((c.args.a + c.args.b) / 2 / 32 * 32)) c.args.wanted in
    let part = halved.high_part_lem (bit_over true c.args.high.now.now) (bit_over_le true c.args.high.now.now) c.args.len c.args.wanted c.args.a c.args.b c.requires.1 ((c.args.a + c.args.b) / 2 / 32 * 32) (omega arith) (omega arith) below c.if-below.from c.if-below-2.to (elim c.if-below.branch [ then-below w ↦ halved.chosen _ true _ _ _ (lt-ltb _ _ w.if-below.true) w.from-is | else-below w ↦ halved.chosen _ false _ _ _ (le-ltb _ _ w.if-below.false) w.from-is ]) (elim c.if-below-2.branch [ then-below-2 w ↦ halved.chosen _ true _ _ _ (lt-ltb _ _ w.if-below-2.true) w.to-is | else-below-2 w ↦ halved.chosen _ false _ _ _ (le-ltb _ _ w.if-below-2.false) w.to-is ]) in
    (omega (arith, c.decreases, part.2), (c.requires.0, part.0, omega (arith, part.1, c.requires.2), omega (arith, part.1, c.requires.3)))

pub returns : goal.returns
returns t c =
    let h : 64 < c.args.b - c.args.a = c.if-b-a-le-LINEAR_SCAN_THRESHOLD.false in
    let place = c.select_within-place in
    let below = ltb (place.result - ((c.args.a + c.args.b) / 2 / 32 * 32)) c.args.wanted in
    halved.high_holds (bit_over true c.args.high.now.now) (bit_over_le true c.args.high.now.now) c.args.len c.args.wanted c.args.a c.args.b c.requires.1 ((c.args.a + c.args.b) / 2 / 32 * 32) (omega arith) (omega arith) below c.if-below.from c.if-below-2.to (elim c.if-below.branch [ then-below w ↦ halved.chosen _ true _ _ _ (lt-ltb _ _ w.if-below.true) w.from-is | else-below w ↦ halved.chosen _ false _ _ _ (le-ltb _ _ w.if-below.false) w.from-is ]) (elim c.if-below-2.branch [ then-below-2 w ↦ halved.chosen _ true _ _ _ (lt-ltb _ _ w.if-below-2.true) w.to-is | else-below-2 w ↦ halved.chosen _ false _ _ _ (le-ltb _ _ w.if-below-2.false) w.to-is ]) _ place.ensures refl _ c.halve_high.ensures
