-- `elias_fano_walk::search::begin_from` meets its contract.
-- Assumes nothing.
use mathlib.Core.Path.{ap}
use Prim.Native.Nat.{zero-le}
use native.Mathlib.Omega.{arith}
use Rattle.elias_fano_walk.specs.declared.walk.Walk.{Walk}
use Rattle.elias_fano_walk.proofs.Searched as searched
use Rattle.elias_fano_walk.proofs.search.begin_from.Goals as goal

pub returns-then-end-eq0 : goal.returns-then-end-eq0
returns-then-end-eq0 c =
    let e = ap (λ (w : Walk). w.number) c.ended.ensures in
    let z = c.if-end-eq0.true in
    ((λ h. absurd (omega arith)), searched.skip_ends c.args.image.now.words.now c.args.image.now.ok c.args.image.now.parts c.args.image.now.right c.args.val _ (omega arith) (omega arith) (λ j h. absurd (omega arith)))

pub skip_below-requires : goal.skip_below-requires
skip_below-requires c =
    let b = c.begin_at-from.ensures in
    let t = c.scan_section-section.ensures.start in
    (b.0, omega (arith, b.1, t.upto), λ j h. t.less j (omega (arith, b.1)) zero-le)
