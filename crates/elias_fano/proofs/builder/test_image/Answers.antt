-- `elias_fano::builder::test_image` meets its contract.
-- Assumes nothing.
use mathlib.Core.Path.{sym, ◌∙◌}
use borrow.Author.Tests.{not-true, not-false}
use Rattle.elias_fano.proofs.Testing as testing
use Rattle.elias_fano.proofs.builder.test_image.Goals as goal

pub returns-then-not-is_intact : goal.returns-then-not-is_intact
returns-then-not-is_intact c = testing.bits_refused _ c.args.words.now _ c.requires _ (sym c.is_intact.ensures ∙ not-true _ c.if-not-is_intact.true-raw)

pub has_room-requires : goal.has_room-requires
has_room-requires c = (testing.is_holding _ c.args.words.now _ c.requires (sym c.is_intact.ensures ∙ not-false _ c.if-not-is_intact.false-raw), c.requires.sizes)

pub returns-then-not-has_room : goal.returns-then-not-has_room
returns-then-not-has_room c =
    testing.image_refused _ c.args.words.now _ c.requires c.args.rank _ (sym c.is_intact.ensures ∙ not-false _ c.if-not-is_intact.false-raw) c.has_room.ensures (not-true _ c.if-not-has_room.true-raw)

pub returns : goal.returns
returns c =
    testing.finishable _ c.args.words.now _ c.requires c.args.rank _ (sym c.is_intact.ensures ∙ not-false _ c.if-not-is_intact.false-raw) c.has_room.ensures (not-false _ c.if-not-has_room.false-raw)
