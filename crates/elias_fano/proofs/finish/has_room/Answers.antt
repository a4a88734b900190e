-- `elias_fano::finish::has_room` meets its contract.
-- Assumes nothing.
use mathlib.Core.Path.{ap}
use Prim.Native.Nat.{ℕ}
use native.Mathlib.Omega.{arith}
use lib.Dec.{leb}
use lib.ListN.{length}
use Rattle.elias_fano.proofs.Finished as finished
use Rattle.elias_fano.proofs.finish.has_room.Goals as goal

pub limit_of-requires : goal.limit_of-requires
limit_of-requires c = let a = c.args in finished.limit_ready a.b a.words.now c.requires.0 (omega (arith, c.well_formed.1.0)) a.s c.requires.1

pub returns-then-limit_of-words : goal.returns-then-limit_of-words
returns-then-limit_of-words c = let a = c.args in finished.limit_room a.b a.words.now c.requires.0 (omega (arith, c.well_formed.1.0)) a.s c.requires.1 a.rank _ (c.limit_of.ensures a.b.universe c.requires.1) c.if-limit_of-words.true

pub returns : goal.returns
returns c = ap (λ (k : ℕ). leb k (length c.args.words.now)) c.measured_len.ensures
