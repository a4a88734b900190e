-- `elias_fano_walk::walk::begin` meets its contract.
-- Assumes nothing.
use mathlib.Core.Path.{ap}
use native.Mathlib.Omega.{arith}
use Rattle.elias_fano_walk.specs.declared.walk.Walk.{Walk}
use Rattle.elias_fano_walk.proofs.walk.begin.Goals as goal

pub returns-then-k-image : goal.returns-then-k-image
returns-then-k-image c = let e = ap (λ (w : Walk). w.number) c.ended.ensures in ((λ h. absurd (omega (arith, c.if-k-image.true, e))), e)

pub begin_at-requires : goal.begin_at-requires
begin_at-requires c = c.one_at.ensures

pub returns : goal.returns
returns c = c.begin_at.ensures
