-- `decimal::count` meets its contract. Assumes nothing.
use Prim.Native.Nat.{◌-◌}
use native.Mathlib.Omega.{arith}
use Rattle.decimal.proofs.Writing.{places_small, count_more, count_end}
use Rattle.decimal.proofs.count.Goals as goal

pub returns-then-rest-lt10-clause-value : goal.returns-then-rest-lt10-clause-value
returns-then-rest-lt10-clause-value c = let e = places_small (20 - c.loop-k.k) c.loop-k.rest c.if-rest-lt10.true in omega arith

pub loop-k-preserved : goal.loop-k-preserved
loop-k-preserved c = let e = count_more c.loop-k.k c.loop-k.rest c.loop-k-test.true c.if-rest-lt10.false in omega arith

pub returns-clause-value : goal.returns-clause-value
returns-clause-value c = let e = count_end c.loop-k.k c.loop-k.rest c.loop-k-test.false in omega arith
