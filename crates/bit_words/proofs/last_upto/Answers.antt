-- `bit_words::last_upto` meets its contract.
-- Assumes nothing.
use mathlib.Core.Path.{sym, ◌∙◌}
use Prim.Native.Nat.{ℕ, ◌-◌}
use native.Mathlib.Omega.{arith}
use Rattle.bit_words.proofs.Last as last_word
use Rattle.bit_words.proofs.last_upto.Goals as goal

pub place_in-requires : goal.place_in-requires
place_in-requires c = (omega (arith, c.well_formed, c.requires), last_word.last_within _ _ c.msb.ensures)

pub returns-then-low-ne0 : goal.returns-then-low-ne0
returns-then-low-ne0 c =
    c.place_in.ensures ∙ last_word.found_here c.args.words.now c.args.pos _ c.low_bits-low.ensures _ c.msb.ensures c.if-low-ne0.true

pub returns-then-n-eq0 : goal.returns-then-n-eq0
returns-then-n-eq0 c =
    last_word.found_nowhere c.args.words.now c.args.pos _ (sym c.low_bits-low.ensures ∙ c.if-low-ne0.false) c.last_used-n.ensures c.if-n-eq0.true

pub bounds-words-i : goal.bounds-words-i
bounds-words-i c =
    let u = c.last_used-n.ensures.upto in
    omega (arith, c.requires, c.if-n-eq0.false)

pub place_in-requires-2 : goal.place_in-requires-2
place_in-requires-2 c =
    let u = c.last_used-n.ensures.upto in
    (omega (arith, c.well_formed, c.requires), last_word.last_within _ _ c.msb-2.ensures)

pub returns : goal.returns
returns c =
    let n : ℕ = c.last_used-n.result in
    c.place_in-2.ensures
    ∙ last_word.found_before c.args.words.now c.args.pos n (sym c.low_bits-low.ensures ∙ c.if-low-ne0.false) c.last_used-n.ensures (n - 1) (omega (arith, c.if-n-eq0.false)) _ c.msb-2.ensures (c.shared_slice_known-3-1.given (n - 1)).fits
