-- `decimal::value` meets its contract. The invariant: the text spells what its rest spells after x. Assumes nothing.
use mathlib.Core.Path.{◌≡◌}
use Prim.Native.Nat.{◌<◌, ◌^◌}
use lib.ListN.{drop}
use Rattle.decimal.specs.Decimal.{value_from}
use Rattle.decimal.proofs.value.Given as goal

abbrev pub invariant-loop-b : goal.invariant-loop-b
invariant-loop-b l = (l.x < 2 ^ 64) × (value_from 0 l.text ≡ value_from l.x (drop l.b-index l.text))
