-- `elias_fano_walk::search::halve_range` meets its contract. Assumes nothing.
use Rattle.std.proofs.Common.{ℕ, ◌-◌, ◌<◌, subst, arith}
use Rattle.elias_fano_walk.proofs.Halved as halved
use Rattle.elias_fano_walk.proofs.search.+halve_range.Goals as goal

pub overflow_add-mid : goal.overflow_add-mid
overflow_add-mid t c = record { fits = omega (arith, c.requires.some, halved.few c.args.image.now.words.now c.args.image.now.ok c.args.image.now.parts c.args.image.now.right c.args.val c.args.a c.args.b c.requires) }

pub halve_range-requires : goal.halve_range-requires
halve_range-requires t c =
    let h : 64 < c.args.b - c.args.a = c.if-b-a-le-LINEAR_SCAN_THRESHOLD.false in
    (omega (arith, c.decreases), (record { some = omega arith; upto = omega (arith, c.requires.upto) }))

pub returns-then-value_of-val : goal.returns-then-value_of-val
returns-then-value_of-val t c =
    let h : 64 < c.args.b - c.args.a = c.if-b-a-le-LINEAR_SCAN_THRESHOLD.false in
    halved.goes_right c.args.image.now.words.now c.args.image.now.ok c.args.image.now.parts c.args.image.now.right c.args.val c.args.a c.args.b c.requires _ _ (omega arith) (omega arith) (subst (λ (x : ℕ). x < c.args.val) c.value_of.ensures c.if-value_of-val.true) c.halve_range.ensures

pub halve_range-requires-2 : goal.halve_range-requires-2
halve_range-requires-2 t c =
    let h : 64 < c.args.b - c.args.a = c.if-b-a-le-LINEAR_SCAN_THRESHOLD.false in
    (omega (arith, c.decreases), (record { some = omega arith; upto = omega (arith, c.requires.upto) }))

pub returns : goal.returns
returns t c =
    let h : 64 < c.args.b - c.args.a = c.if-b-a-le-LINEAR_SCAN_THRESHOLD.false in
    halved.goes_left c.args.image.now.words.now c.args.image.now.ok c.args.image.now.parts c.args.image.now.right c.args.val c.args.a c.args.b c.requires _ _ (omega arith) c.halve_range-2.ensures
