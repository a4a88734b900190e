-- `prefix_summed_elias_fano::build::test_room` meets its contract.
-- Assumes nothing.
use mathlib.Core.Path.{◌≡◌, sym, ap, ◌∙◌}
use Prim.Native.Nat.{ℕ, suc, ◌+◌}
use borrow.Author.Tests.{not-true, not-false, leb-true, leb-false}
use native.Mathlib.Numerals.{add-one}
use lib.ListN.{length}
use Rattle.elias_fano_words.specs.Sizes.{sizes_of}
use Rattle.prefix_summed_elias_fano.proofs.Cases as cases
use Rattle.prefix_summed_elias_fano.proofs.build.test_room.Goals as goal

-- the universe is 1 more than the sum
universe_is : (x y : ℕ) → x ≡ y → x + 1 ≡ suc y
universe_is x y e = add-one x ∙ ap suc e

pub has_room-requires : goal.has_room-requires
has_room-requires c = (c.requires.0, c.of_record-s.ensures ∙ ap (λ (y : ℕ). sizes_of y (length c.args.items.now)) (universe_is _ _ c.requires.1))

pub returns-then-not-has_room : goal.returns-then-not-has_room
returns-then-not-has_room c = cases.slice_3 c.args.items.now c.args.len c.requires.0 (leb-false _ _ (sym c.has_room.ensures ∙ not-true _ c.if-not-has_room.true-raw))

pub returns : goal.returns
returns c =
    record {
      summable = c.requires.0;
      sum_is = c.requires.1;
      sizes = c.of_record-s.ensures ∙ ap (λ (y : ℕ). sizes_of y (length c.args.items.now)) (universe_is _ _ c.requires.1);
      room = leb-true _ _ (sym c.has_room.ensures ∙ not-false _ c.if-not-has_room.false-raw);
    }
