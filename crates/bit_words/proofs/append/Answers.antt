-- `bit_words::append` meets its contract.
-- Assumes nothing.
use native.Mathlib.Nat.{lt_of_lt_of_le}
use native.Mathlib.Omega.{arith}
use lib.ListN.{length-set}
use lib.Pow.{pow_mono}
use Rattle.bit_words.proofs.Packed.{fresh, joined, spilled}
use Rattle.bit_words.proofs.append.Goals as goal

pub returns-then-shift-eq0 : goal.returns-then-shift-eq0
returns-then-shift-eq0 c = let k = c.requires.some in let f = c.requires.few in let r = c.requires.room in fresh c.args.words.now c.args.len c.args.x c.args.width (λ i. (c.slice_known-1.given i).fits) c.requires.room c.if-shift-eq0.true c.ranges.x.fits (omega arith)

pub bounds-words-at-then-shift-width : goal.bounds-words-at-then-shift-width
bounds-words-at-then-shift-width c = let k = c.requires.some in let f = c.requires.few in let r = c.requires.room in simp length-set (omega arith)

pub returns-then-shift-width : goal.returns-then-shift-width
returns-then-shift-width c = let k = c.requires.some in let f = c.requires.few in let r = c.requires.room in spilled c.args.words.now c.args.len c.args.x c.args.width (λ i. (c.slice_known-1.given i).fits) c.requires.room c.if-shift-eq0.false (c.requires.clear c.if-shift-eq0.false) c.ranges.x.fits (omega arith)

pub returns-else-shift-width : goal.returns-else-shift-width
returns-else-shift-width c = let k = c.requires.some in let f = c.requires.few in let r = c.requires.room in joined c.args.words.now c.args.len c.args.x c.args.width (λ i. (c.slice_known-1.given i).fits) c.requires.room c.if-shift-eq0.false (c.requires.clear c.if-shift-eq0.false) (lt_of_lt_of_le c.requires.small (pow_mono (omega arith))) (omega arith)
