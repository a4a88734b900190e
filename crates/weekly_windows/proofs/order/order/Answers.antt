-- `weekly_windows::order::order` meets its contract. The invariant: the first `i` words are in order.
-- Assumes nothing.
use mathlib.Core.Path.{◌≡◌, subst}
use Prim.Native.Nat.{◌+◌, ◌*◌}
use native.Mathlib.Omega.{arith}
use Rattle.weekly_windows.proofs.Inserting as inserting
use Rattle.weekly_windows.proofs.order.order.Goals as goal

pub loop-k-init : goal.loop-k-init
loop-k-init c = inserting.none_ordered _ c.requires.0 _ c.requires.1

pub insert-n-requires : goal.insert-n-requires
insert-n-requires c =
    let l = c.loop-k in
    let f = inserting.one_left _ c.requires.0 l.cuts l.n (2 * l.k) l.invariant (omega (arith, c.loop-k-test.true)) in
    (l.invariant.long, f.1, f.2)

pub loop-k-preserved : goal.loop-k-preserved
loop-k-preserved c =
    let l = c.loop-k in
    let e = c.insert-n.ensures in
    let i : 2 * l.k + 2 ≡ 2 * (l.k + 1) = omega arith in
    subst (inserting.Orders c.args.windows.now _ _) i (inserting.one_ordered _ c.requires.0 l.cuts l.n (2 * l.k) l.invariant (omega (arith, c.loop-k-test.true)) _ _ e.0 e.1 e.2 e.3)

pub bounds-cuts-n : goal.bounds-cuts-n
bounds-cuts-n c = let l = c.loop-k in omega (arith, inserting.room-left _ c.requires.0 l.cuts l.n (2 * l.k) l.invariant)

pub returns : goal.returns
returns c = let l = c.loop-k in inserting.all_ordered _ c.requires.0 l.cuts l.n (2 * l.k) l.invariant (omega (arith, inserting.halves _ c.requires.0, c.loop-k-test.false))
