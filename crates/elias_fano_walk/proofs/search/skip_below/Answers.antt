-- `elias_fano_walk::search::skip_below` meets its contract. The invariant: the values before the walk are below `val`, and as many steps are left as values.
-- Assumes nothing.
use mathlib.Core.Path.{refl}
use native.Mathlib.Omega.{arith}
use Rattle.elias_fano_walk.proofs.Searched as searched
use Rattle.elias_fano_walk.proofs.search.skip_below.Goals as goal

pub loop-n-init : goal.loop-n-init
loop-n-init c = (refl, record { walking = c.requires.0; upto = c.requires.1; less = c.requires.2 })

pub take-t-requires : goal.take-t-requires
take-t-requires c = let l = c.loop-n.invariant in (l.1.walking, omega (arith, l.0, c.loop-n-test.true))

pub returns-then-val-t : goal.returns-then-val-t
returns-then-val-t c =
    let l = c.loop-n in
    (l.invariant.1.walking, searched.skip_stops c.args.image.now.words.now c.args.image.now.ok c.args.image.now.parts c.args.image.now.right c.args.val l.w l.invariant.1 _ c.take-t.ensures.2 (omega (arith, c.if-val-t.true)))

pub loop-n-preserved : goal.loop-n-preserved
loop-n-preserved c =
    let l = c.loop-n in
    let t = c.take-t.ensures in
    (omega (arith, l.invariant.0, t.1), searched.skip_goes_on c.args.image.now.words.now c.args.image.now.ok c.args.image.now.parts c.args.image.now.right c.args.val l.w l.invariant.1 _ t.2 (omega (arith, c.if-val-t.false)) (omega (arith, l.invariant.0, c.loop-n-test.true)) _ t.0 t.1)

pub returns : goal.returns
returns c =
    let l = c.loop-n in
    (l.invariant.1.walking, searched.skip_ends c.args.image.now.words.now c.args.image.now.ok c.args.image.now.parts c.args.image.now.right c.args.val l.w.number (omega (arith, l.invariant.0, c.loop-n-test.false)) l.invariant.1.upto l.invariant.1.less)
