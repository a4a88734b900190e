-- `bit_vectors::unary::left_of` meets its contract.
-- Assumes nothing.
use mathlib.Core.Path.{subst}
use Prim.Native.Nat.{ℕ, ◌+◌, ◌/◌}
use native.Mathlib.Omega.{arith}
use mathlib.Core.Bool.{true}
use Rattle.bit_words.specs.Inner.{Skipped}
use Rattle.bit_words.specs.Vector.{bit_over}
use Rattle.bit_vectors.proofs.OneAhead.{left_buf, left_end, left_none, left_word}
use Rattle.bit_words.proofs.Valid.{valid}
use Rattle.bit_vectors.proofs.unary.left_of.Goals as goal

pub returns-then-rest-ne0 : goal.returns-then-rest-ne0
returns-then-rest-ne0 c = left_buf c.args.words.now c.args.len c.args.w.position c.args.w.from c.args.w.buf (λ i. (c.shared_slice_known-1.given i).fits) (valid c.args.words.now c.args.len c.requires.ok) c.requires.behind c.requires.near c.requires.rest c.if-rest-ne0.true

pub returns-then-used-at : goal.returns-then-used-at
returns-then-used-at c = let e = c.words_for-used.ensures in left_end c.args.words.now c.args.len c.args.w.position c.args.w.from c.args.w.buf (λ i. (c.shared_slice_known-1.given i).fits) (valid c.args.words.now c.args.len c.requires.ok) c.requires.behind c.requires.near c.requires.rest c.if-rest-ne0.false (omega arith)

pub skip_zeros-i-requires : goal.skip_zeros-i-requires
skip_zeros-i-requires c = let r = (valid c.args.words.now c.args.len c.requires.ok).room in let e = c.words_for-used.ensures in omega arith

pub returns-then-i-used : goal.returns-then-i-used
returns-then-i-used c = let e = c.words_for-used.ensures in left_none c.args.words.now c.args.len c.args.w.position c.args.w.from c.args.w.buf (λ i. (c.shared_slice_known-1.given i).fits) (valid c.args.words.now c.args.len c.requires.ok) c.requires.behind c.requires.near c.requires.rest c.if-rest-ne0.false (omega arith) c.skip_zeros-i.result (subst (λ (n : ℕ). Skipped (bit_over true c.args.words.now) (c.args.w.position / 64 + 1) n 0 c.skip_zeros-i.result 0) c.words_for-used.ensures c.skip_zeros-i.ensures) (omega arith)

pub bounds-words-i : goal.bounds-words-i
bounds-words-i c = let r = (valid c.args.words.now c.args.len c.requires.ok).room in let e = c.words_for-used.ensures in let k = c.skip_zeros-i.ensures.upto in omega arith

pub returns : goal.returns
returns c = let e = c.words_for-used.ensures in let k = c.skip_zeros-i.ensures.upto in left_word c.args.words.now c.args.len c.args.w.position c.args.w.from c.args.w.buf (λ i. (c.shared_slice_known-1.given i).fits) (valid c.args.words.now c.args.len c.requires.ok) c.requires.behind c.requires.near c.requires.rest c.if-rest-ne0.false (omega arith) c.skip_zeros-i.result (subst (λ (n : ℕ). Skipped (bit_over true c.args.words.now) (c.args.w.position / 64 + 1) n 0 c.skip_zeros-i.result 0) c.words_for-used.ensures c.skip_zeros-i.ensures) (omega arith)
