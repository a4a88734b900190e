-- `bit_vectors::bit_vector::push_bit` meets its contract.
-- Assumes nothing.
use mathlib.Core.Path.{ap, ◌∙◌}
use Prim.Native.Nat.{ℕ}
use Rattle.bit_vectors.specs.Queries.{push_bits_of}
use Rattle.bit_vectors.proofs.bit_vector.push_bit.Goals as goal

pub returns : goal.returns
returns c = c.push_bits.ensures ∙ ap (λ (b : ℕ). push_bits_of c.args.words.now c.args.len b 1) c.bit_word.ensures
