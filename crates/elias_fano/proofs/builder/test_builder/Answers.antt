-- `elias_fano::builder::test_builder` meets its contract.
-- Assumes nothing.
use mathlib.Core.Path.{sym, ◌∙◌, subst}
use Prim.Native.Nat.{◌≤◌, ◌<◌}
use borrow.Author.Tests.{not-true, not-false}
use Rattle.elias_fano_words.specs.declared.sizes.Sizes.{Sizes}
use Rattle.elias_fano.proofs.Cases as cases
use Rattle.elias_fano.proofs.builder.test_builder.Goals as goal

pub returns-then-not-is_sound : goal.returns-then-not-is_sound
returns-then-not-is_sound c = λ others. cases.builder_7 _ _ others (sym c.is_sound.ensures ∙ not-true _ c.if-not-is_sound.true-raw)

pub of_record-s-requires : goal.of_record-s-requires
of_record-s-requires c = let s = cases.is_sound _ (sym c.is_sound.ensures ∙ not-false _ c.if-not-is_sound.false-raw) in (s.some, s.most)

pub returns-then-len-s : goal.returns-then-len-s
returns-then-len-s c = λ others. cases.builder_3 _ _ others (sym c.is_sound.ensures ∙ not-false _ c.if-not-is_sound.false-raw) (subst (λ (z : Sizes). c.args.len < z.start_len) c.of_record-s.ensures c.if-len-s.true)

pub returns : goal.returns
returns c = record { is_sound = sym c.is_sound.ensures ∙ not-false _ c.if-not-is_sound.false-raw; long = subst (λ (z : Sizes). z.start_len ≤ c.args.len) c.of_record-s.ensures c.if-len-s.false; sizes = c.of_record-s.ensures }
