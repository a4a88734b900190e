-- `bit_vectors::bit_vector::from_bit` meets its contract.
-- Assumes nothing.
use mathlib.Core.Path.{sym, ap, ap₂, ◌∙◌}
use Prim.Native.Nat.{ℕ, ◌/◌, ◌%◌, ◌^◌}
use native.Mathlib.Omega.{arith}
use mathlib.Core.List.{List, ◌++◌}
use lib.ListN.{replicate, drop, set}
use Rattle.errors.specs.Answer.{done, leaves}
use Rattle.broadword.specs.Fields.{flag}
use Rattle.broadword.proofs.Truth.{flag_le}
use Rattle.bit_vectors.proofs.Cases as cases
use Rattle.bit_words.proofs.Packed.{filled, filled_part}
use Rattle.bit_vectors.proofs.bit_vector.from_bit.Goals as goal

pub returns-then-words-used : goal.returns-then-words-used
returns-then-words-used c = let e = c.words_for-used.ensures in sym (cases.from_bit_13 _ _ _ (omega arith))

pub returns-then-left-eq0 : goal.returns-then-left-eq0
returns-then-left-eq0 c = let e = c.words_for-used.ensures in ap (leaves done) (c.fill.ensures ∙ ap (λ (x : ℕ). replicate (c.args.len / 64) x ++ drop (c.args.len / 64) c.args.words.now) c.repeated-word.ensures ∙ filled c.args.words.now (flag c.args.bit) c.args.len (flag_le c.args.bit) (omega arith) c.if-left-eq0.true) ∙ sym (cases.from_bit_ok _ _ _ (omega arith))

pub returns : goal.returns
returns c = let e = c.words_for-used.ensures in ap (leaves done) (ap₂ (λ (l : List ℕ) (x : ℕ). set l (c.args.len / 64) x) (c.fill.ensures ∙ ap (λ (x : ℕ). replicate (c.args.len / 64) x ++ drop (c.args.len / 64) c.args.words.now) c.repeated-word.ensures) (c.low_bits.ensures ∙ ap (λ (x : ℕ). x % 2 ^ (c.args.len % 64)) c.repeated-word.ensures) ∙ filled_part c.args.words.now (flag c.args.bit) c.args.len (flag_le c.args.bit) (omega arith) c.if-left-eq0.false) ∙ sym (cases.from_bit_ok _ _ _ (omega arith))
