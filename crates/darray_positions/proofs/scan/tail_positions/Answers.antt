-- `darray_positions::scan::tail_positions` meets its contract.
-- Assumes nothing.
use mathlib.Core.Path.{refl, ap, ◌∙◌}
use Prim.Native.Nat.{ℕ, ◌*◌, ◌/◌, ◌%◌, ◌^◌}
use Rattle.broadword.specs.Bits.{count, ones}
use Rattle.bit_words.specs.Vector.{bit_over}
use Rattle.darray_positions.proofs.Counts as scan
use Rattle.darray_positions.proofs.scan.tail_positions.Goals as goal

pub returns : goal.returns
returns c =
    let a = c.args in
    scan.count_part a.over_one a.words.now (λ i. (c.shared_slice_known-1.given i).fits) a.len (count (bit_over a.over_one a.words.now) (a.len / 64 * 64)) c.popcount.result refl
    (c.popcount.ensures ∙ ap (λ (w : ℕ). ones w 64) (c.low_bits.ensures ∙ ap (λ (w : ℕ). w % 2 ^ (a.len % 64)) c.word_over.ensures))
