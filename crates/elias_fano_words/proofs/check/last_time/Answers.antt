-- `elias_fano_words::check::last_time` meets its contract.
-- Assumes nothing.
use Prim.Native.Nat.{◌-◌}
use native.Mathlib.Omega.{arith}
use Rattle.elias_fano_words.proofs.LastTime as last-time
use Rattle.elias_fano_words.proofs.check.last_time.Goals as goal

pub overflow_sub-upper : goal.overflow_sub-upper
overflow_sub-upper c =
    last-time.number_le c.args.high.now c.requires.place c.args.m c.last_one.result c.requires.last c.requires.before c.last_one.ensures

pub returns-then-universe-l : goal.returns-then-universe-l
returns-then-universe-l c =
    last-time.too_high c.args.high.now c.args.low.now c.args.universe c.args.l (c.args.m - 1) c.last_one.result c.ranges.universe.fits c.requires.narrow c.last_one.ensures (omega arith)

pub low_at-requires : goal.low_at-requires
low_at-requires c =
    (c.requires.narrow, last-time.held_last c.args.low.now c.args.l c.args.m (omega (arith, c.requires.before)) c.requires.held)

pub overflow_add-time : goal.overflow_add-time
overflow_add-time c =
    record { fits = last-time.time_fits c.args.high.now c.args.low.now c.args.universe c.args.l (c.args.m - 1) c.last_one.result c.ranges.universe.fits c.requires.narrow c.last_one.ensures c.if-universe-l.false c.low_at.result c.low_at.ensures }

pub returns : goal.returns
returns c =
    last-time.time_if c.args.high.now c.args.low.now c.args.universe c.args.l (c.args.m - 1) c.last_one.result c.ranges.universe.fits c.requires.narrow c.last_one.ensures c.if-universe-l.false c.low_at.result c.low_at.ensures c.then_some.result c.then_some.ensures
