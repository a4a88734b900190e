-- `darray_positions::scan::cursor_at` meets its contract.
-- Assumes nothing.
use mathlib.Core.Path.{◌≡◌, ap, ◌∙◌}
use Prim.Native.Nat.{ℕ, ◌/◌, ◌%◌, ◌^◌}
use lib.ListN.{get_or}
use Rattle.broadword.specs.Bits.{ones}
use Rattle.bit_words.specs.Vector.{word_over}
use Rattle.darray_positions.proofs.Counts as counts
use Rattle.darray_positions.proofs.scan.cursor_at.Goals as goal

pub word_over-requires : goal.word_over-requires
word_over-requires c = counts.position_word c.args.over_one c.args.words.now c.args.k c.args.at c.requires.0 c.requires.1

-- the positions of the word below it
below : (c : goal.After-popcount-below) → c.popcount-below.result ≡ ones (word_over c.args.over_one (get_or c.args.words.now (c.args.at / 64) 0) % 2 ^ (c.args.at % 64)) 64
below c = c.popcount-below.ensures ∙ ap (λ (w : ℕ). ones w 64) (c.low_bits.ensures ∙ ap (λ (w : ℕ). w % 2 ^ (c.args.at % 64)) c.word_over.ensures)

pub overflow_sub-result : goal.overflow_sub-result
overflow_sub-result c =
    counts.below_le c.args.over_one c.args.words.now (λ i. (c.shared_slice_known-1.given i).fits) c.args.k c.args.at c.popcount-below.result c.requires.0 (below c)

pub returns : goal.returns
returns c =
    counts.cursor_at c.args.over_one c.args.words.now (λ i. (c.shared_slice_known-1.given i).fits) c.args.k c.args.at c.popcount-below.result c.requires.0 (below c)
