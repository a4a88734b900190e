-- `weekly_windows::order::insert` meets its contract. The invariant: what is written, and the rest with the window that goes on, are the windows with the new one.
-- Assumes nothing.
use mathlib.Core.Path.{◌≡◌}
use Prim.Native.Nat.{◌+◌, ◌*◌}
use native.Mathlib.Omega.{arith}
use Rattle.weekly_windows.proofs.Inserting as inserting
use Rattle.weekly_windows.proofs.order.insert.Goals.{in-Some, in_default}
use Rattle.weekly_windows.proofs.order.insert.Goals as goal

pub loop-k-preserved : goal.loop-k-preserved
loop-k-preserved c =
    let l = c.loop-k in
    let e : 2 * l.k + 2 ≡ 2 * (l.k + 1) = omega arith in
    elim c.match-m.branch [
      | in-Some w ↦ inserting.renamed _ _ _ _ _ _ _ _ _ _ _ _ w.cuts-is w.n-is e (inserting.pair_done c.args.cuts.now c.args.len c.args.a c.args.b c.requires.0 c.requires.1 c.requires.2 l.cuts l.x l.y l.n (2 * l.k) l.invariant (omega (arith, c.loop-k-test.true)) _ c.meet-m.ensures _ _ w.in-Some.is)
      | in_default w ↦ inserting.renamed _ _ _ _ _ _ _ _ _ _ _ _ w.cuts-is w.n-is e (inserting.pair_joined c.args.cuts.now c.args.len c.args.a c.args.b c.requires.0 c.requires.1 c.requires.2 l.cuts l.x l.y l.n (2 * l.k) l.invariant (omega (arith, c.loop-k-test.true)) _ c.meet-m.ensures w.in_default.is)
    ]

pub returns : goal.returns
returns c =
    let l = c.loop-k in
    let p = l.invariant.pairs in
    (inserting.inserted_long c.args.cuts.now c.args.len c.args.a c.args.b c.requires.0 c.requires.1 c.requires.2 l.cuts l.x l.y l.n (2 * l.k) l.invariant, omega arith, omega (arith, l.invariant.behind, l.invariant.upto), inserting.all_inserted c.args.cuts.now c.args.len c.args.a c.args.b c.requires.0 c.requires.1 c.requires.2 l.cuts l.x l.y l.n (2 * l.k) l.invariant (omega (arith, c.requires.1, c.loop-k-test.false)))
