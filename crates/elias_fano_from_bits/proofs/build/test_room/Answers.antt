-- `elias_fano_from_bits::build::test_room` meets its contract.
-- Assumes nothing.
use mathlib.Core.Path.{sym, ◌∙◌}
use borrow.Author.Tests.{not-true, leb-false}
use Rattle.elias_fano_from_bits.proofs.Cases as cases
use Rattle.elias_fano_from_bits.proofs.build.test_room.Goals as goal

pub returns-then-not-has_room : goal.returns-then-not-has_room
returns-then-not-has_room c =
    let a = c.args in
    cases.ones_3 a.words.now a.len a.rank a.room c.requires.0 (leb-false _ _ (sym c.has_room.ensures ∙ not-true _ c.if-not-has_room.true-raw))
