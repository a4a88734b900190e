-- `decimal::write` meets its contract. Assumes nothing.
use Prim.Native.Nat.{◌≤◌}
use native.Mathlib.Omega.{arith}
use Rattle.decimal.proofs.Writing.{places_some, write_none, write_some}
use Rattle.decimal.proofs.write.Goals as goal
use Rattle.decimal.proofs.write.Goals.{then-out-at-via-then-out-at, then-out-at-via-else-out-at+then-out-at-2}

pub returns-then-out-at : goal.returns-then-out-at
returns-then-out-at c =
    let n = c.count-n in
    write_none _ _ _ _ n.ensures.value (
    let h : 1 ≤ n.result = omega (arith, n.ensures.value, places_some 19 c.args.x) in
    elim c.then-out-at.branch [
      | then-out-at-via-then-out-at w ↦ omega arith
      | then-out-at-via-else-out-at+then-out-at-2 w ↦ omega arith
    ]
    )

pub returns : goal.returns
returns c = write_some _ _ _ _ c.count-n.ensures.value _ (omega arith) c.fill.ensures
