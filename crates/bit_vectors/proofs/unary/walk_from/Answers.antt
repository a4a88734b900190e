-- `bit_vectors::unary::walk_from` meets its contract.
-- Assumes nothing.
use mathlib.Core.Path.{ap}
use Prim.Native.Nat.{ℕ, ◌/◌, ◌%◌}
use Rattle.bit_vectors.specs.declared.unary.Unary.{Unary}
use Rattle.bit_words.proofs.Search.{shifted_rest}
use lib.ListN.{get_or}
use Rattle.bit_vectors.proofs.unary.walk_from.Goals as goal

pub returns : goal.returns
returns c = ap {B = Unary} (λ (r : ℕ). record { position = c.args.from; from = c.args.from; buf = r }) (shifted_rest (get_or c.args.words.now (c.args.from / 64) 0) (c.args.from % 64) (c.shared_slice_known-1.given (c.args.from / 64)).fits)
