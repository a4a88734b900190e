-- `darray::pending::fill` meets its contract: the invariant says that the first c positions are stored, and that the word's rest has the next ones.
-- Assumes nothing.
use Rattle.std.specs.Prelude.{Some}
use borrow.Author.Rules.{rules}
use borrow.Author.Count.{below_more}
use mathlib.Core.Path.{◌≡◌, sym, ◌∙◌, subst}
use Prim.Native.Nat.{ℕ, ◌+◌, ◌*◌, ◌^◌, ◌<◌}
use native.Mathlib.Nat.{not-suc-le-zero}
use native.Mathlib.Omega.{arith}
use lib.ListN.{length, get_or, set, length-set}
use lib.Seq.{get_or-set_same, get_or-set_other}
use Rattle.broadword.specs.Bits.{bit}
use Rattle.broadword.specs.Places.{select}
use Rattle.broadword.proofs.Lowest.{at_some}
use Rattle.bit_words.specs.Vector.{bit_over, word_over}
use Rattle.bit_words.proofs.Search.{first_is}
use Rattle.darray_positions.specs.Scan.{Position}
use Rattle.darray_positions.proofs.Blocks as block
use Rattle.darray_positions.proofs.Counts as counts
use Rattle.darray.proofs.Taking as taking
use Rattle.darray.proofs.Taking.{Left}
use Rattle.darray.proofs.pending.fill.Goals as goal

pub word_over-requires : goal.word_over-requires
word_over-requires c =
    let a = c.args in
    counts.position_word a.over_one a.words.now a.k a.first c.requires.3 (block.inside_le _ _ _ _ (omega arith) c.requires.4)

pub loop-c-init : goal.loop-c-init
loop-c-init c =
    let a = c.args in
    let e : a.k ≡ a.k + 0 = omega arith in
    let w = first_is a.over_one a.words.now (λ i. (c.shared_slice_known-1.given i).fits) a.first c.word_over.result c.word_over.ensures in
    (search rules, c.requires.0, subst (Left a.over_one a.words.now _ _) e (taking.left-start a.over_one a.words.now (λ i. (c.shared_slice_known-1.given i).fits) a.k a.first _ c.requires.3 w), λ i h. absurd (not-suc-le-zero h))

pub overflow_mul-a : goal.overflow_mul-a
overflow_mul-a c =
    let lowest : select (bit c.loop-c.left) 64 0 ≡ Some c.in-Some.bit = sym c.lsb.ensures ∙ c.in-Some.is in
    let next : Position (bit_over c.args.over_one c.args.words.now) (c.args.k + c.loop-c.c) (c.loop-c.word * 64 + c.in-Some.bit) = let a = c.args in
    let l = c.loop-c in
    taking.left_position a.over_one a.words.now (λ i. (c.shared_slice_known-1.given i).fits) l.word l.left (a.k + l.c) l.invariant.2 c.in-Some.bit (sym (lowest)) in
    let next_lt : c.loop-c.word * 64 + c.in-Some.bit < 2 ^ 63 = counts.position_lt _ _ _ _ (block.inside_le _ _ _ _ (omega (arith, c.loop-c-test.true)) c.requires.4) (next) in
    omega (arith, next_lt)

pub overflow_add-a : goal.overflow_add-a
overflow_add-a c =
    let lowest : select (bit c.loop-c.left) 64 0 ≡ Some c.in-Some.bit = sym c.lsb.ensures ∙ c.in-Some.is in
    let next : Position (bit_over c.args.over_one c.args.words.now) (c.args.k + c.loop-c.c) (c.loop-c.word * 64 + c.in-Some.bit) = let a = c.args in
    let l = c.loop-c in
    taking.left_position a.over_one a.words.now (λ i. (c.shared_slice_known-1.given i).fits) l.word l.left (a.k + l.c) l.invariant.2 c.in-Some.bit (sym (lowest)) in
    let next_lt : c.loop-c.word * 64 + c.in-Some.bit < 2 ^ 63 = counts.position_lt _ _ _ _ (block.inside_le _ _ _ _ (omega (arith, c.loop-c-test.true)) c.requires.4) (next) in
    omega (arith, next_lt)

pub without_lowest-left-requires : goal.without_lowest-left-requires
without_lowest-left-requires c =
    let lowest : select (bit c.loop-c.left) 64 0 ≡ Some c.in-Some.bit = sym c.lsb.ensures ∙ c.in-Some.is in
    at_some _ _ (lowest)

pub loop-c-preserved-in-Some : goal.loop-c-preserved-in-Some
loop-c-preserved-in-Some c =
    let lowest : select (bit c.loop-c.left) 64 0 ≡ Some c.in-Some.bit = sym c.lsb.ensures ∙ c.in-Some.is in
    let next : Position (bit_over c.args.over_one c.args.words.now) (c.args.k + c.loop-c.c) (c.loop-c.word * 64 + c.in-Some.bit) = let a = c.args in
    let l = c.loop-c in
    taking.left_position a.over_one a.words.now (λ i. (c.shared_slice_known-1.given i).fits) l.word l.left (a.k + l.c) l.invariant.2 c.in-Some.bit (sym (lowest)) in
    let a = c.args in
    let l = c.loop-c in
    let x = l.word * 64 + c.in-Some.bit in
    let e : a.k + l.c + 1 ≡ a.k + (l.c + 1) = omega arith in
    let p : x ≡ get_or (set l.a l.c x) l.c 0 = sym (get_or-set_same l.a l.c x 0 (omega arith)) in (
      omega arith,
      length-set l.a l.c x ∙ l.invariant.1,
      subst (Left a.over_one a.words.now l.word c.without_lowest-left.result) e
          (taking.left_taken a.over_one a.words.now (λ i. (c.shared_slice_known-1.given i).fits) l.word l.left (a.k + l.c) l.invariant.2 c.in-Some.bit (sym (lowest)) c.without_lowest-left.result c.without_lowest-left.ensures),
      below_more (λ (i : ℕ). Position (bit_over a.over_one a.words.now) (a.k + i) (get_or (set l.a l.c x) i 0)) l.c
          (λ i h. subst (Position (bit_over a.over_one a.words.now) (a.k + i)) (sym (get_or-set_other l.a l.c i x 0 (λ (q : i ≡ l.c). omega arith))) (l.invariant.3 i h))
          (subst (Position (bit_over a.over_one a.words.now) (a.k + l.c)) p (next)),
    )

pub overflow_add-word : goal.overflow_add-word
overflow_add-word c =
    let left_next : Left c.args.over_one c.args.words.now (c.loop-c.word + 1) (word_over c.args.over_one (get_or c.args.words.now (c.loop-c.word + 1) 0)) (c.args.k + c.loop-c.c) = let a = c.args in
    let l = c.loop-c in
    taking.left_next a.over_one a.words.now (λ i. (c.shared_slice_known-1.given i).fits) l.word l.left (a.k + l.c) l.invariant.2 (sym c.lsb.ensures ∙ c.in-None.is) in
    let next_below : c.loop-c.word + 1 < length c.args.words.now = let a = c.args in
    let l = c.loop-c in
    counts.word_below a.over_one a.words.now (l.word + 1) (a.k + l.c) (left_next).low (block.inside_le _ _ _ _ (omega (arith, c.loop-c-test.true)) c.requires.4) in
    omega (arith, next_below)

pub word_over-left-requires : goal.word_over-left-requires
word_over-left-requires c =
    let left_next : Left c.args.over_one c.args.words.now (c.loop-c.word + 1) (word_over c.args.over_one (get_or c.args.words.now (c.loop-c.word + 1) 0)) (c.args.k + c.loop-c.c) = let a = c.args in
    let l = c.loop-c in
    taking.left_next a.over_one a.words.now (λ i. (c.shared_slice_known-1.given i).fits) l.word l.left (a.k + l.c) l.invariant.2 (sym c.lsb.ensures ∙ c.in-None.is) in
    let next_below : c.loop-c.word + 1 < length c.args.words.now = let a = c.args in
    let l = c.loop-c in
    counts.word_below a.over_one a.words.now (l.word + 1) (a.k + l.c) (left_next).low (block.inside_le _ _ _ _ (omega (arith, c.loop-c-test.true)) c.requires.4) in
    next_below

pub loop-c-smaller : goal.loop-c-smaller
loop-c-smaller c =
    let left_next : Left c.args.over_one c.args.words.now (c.loop-c.word + 1) (word_over c.args.over_one (get_or c.args.words.now (c.loop-c.word + 1) 0)) (c.args.k + c.loop-c.c) = let a = c.args in
    let l = c.loop-c in
    taking.left_next a.over_one a.words.now (λ i. (c.shared_slice_known-1.given i).fits) l.word l.left (a.k + l.c) l.invariant.2 (sym c.lsb.ensures ∙ c.in-None.is) in
    let next_below : c.loop-c.word + 1 < length c.args.words.now = let a = c.args in
    let l = c.loop-c in
    counts.word_below a.over_one a.words.now (l.word + 1) (a.k + l.c) (left_next).low (block.inside_le _ _ _ _ (omega (arith, c.loop-c-test.true)) c.requires.4) in
    omega (arith, next_below)

pub loop-c-preserved : goal.loop-c-preserved
loop-c-preserved c =
    let left_next : Left c.args.over_one c.args.words.now (c.loop-c.word + 1) (word_over c.args.over_one (get_or c.args.words.now (c.loop-c.word + 1) 0)) (c.args.k + c.loop-c.c) = let a = c.args in
    let l = c.loop-c in
    taking.left_next a.over_one a.words.now (λ i. (c.shared_slice_known-1.given i).fits) l.word l.left (a.k + l.c) l.invariant.2 (sym c.lsb.ensures ∙ c.in-None.is) in
    let a = c.args in
    let l = c.loop-c in
    (l.invariant.0, l.invariant.1, subst (λ (w : ℕ). Left a.over_one a.words.now (l.word + 1) w (a.k + l.c)) (sym c.word_over-left.ensures) (left_next), l.invariant.3)
