-- `decimal::count` meets its contract. The invariant: k - 1 digits are passed, and the rest has the others. Assumes nothing.
use mathlib.Core.Path.{◌≡◌}
use Prim.Native.Nat.{◌+◌, ◌-◌}
use Rattle.decimal.specs.Decimal.{num_digits}
use Rattle.decimal.proofs.count.Given as goal

abbrev pub invariant-loop-k : goal.invariant-loop-k
invariant-loop-k l = l.k - 1 + num_digits (20 - l.k) l.rest ≡ num_digits 19 l.x
