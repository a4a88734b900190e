-- `elias_fano_words::check::in_order` meets its contract.
-- Assumes nothing.
use Rattle.std.proofs.Common.{arith, below_none, refl, subst, ◌≡◌, ◌+◌, ◌*◌, ℕ, length}
use Rattle.broadword.specs.Bits.{count}
use Rattle.broadword.proofs.Count.{count_mono}
use Rattle.bit_words.specs.Vector.{bit_at}
use Rattle.darray.proofs.Matching.{it_is, it_is_not}
use Rattle.elias_fano_words.proofs.Pairs as pairs
use Rattle.elias_fano_words.proofs.check.in_order.Goals as goal

pub returns-then-not-strict : goal.returns-then-not-strict
returns-then-not-strict c = it_is (pairs.risen_none c.args.strict c.args.l c.args.high.now c.args.low.now c.if-not-strict.true c.if-l-eq0.true)

pub loop-i-init : goal.loop-i-init
unfolding count
loop-i-init c = (refl, below_none _)

pub word_rises-requires : goal.word_rises-requires
word_rises-requires c =
    let l = c.loop-i in
    (c.requires.0, pairs.pairs_held c.args.strict c.args.l c.args.high.now c.args.low.now (λ i. (c.type_inv.high i).fits) l.i l.before c.next_word.result l.invariant.0 c.next_word.ensures c.requires.1)

pub returns-then-not-word_rises : goal.returns-then-not-word_rises
returns-then-not-word_rises c =
    let l = c.loop-i in
    it_is_not (λ o. c.word_rises.ensures.no c.if-not-word_rises.true (pairs.word_risen c.args.strict c.args.l c.args.high.now c.args.low.now (λ i. (c.type_inv.high i).fits) l.i l.before c.next_word.result l.invariant.0 c.next_word.ensures o))

pub overflow_add-before : goal.overflow_add-before
overflow_add-before c =
    let l = c.loop-i in
    let on = pairs.count_on c.args.strict c.args.l c.args.high.now c.args.low.now (λ i. (c.type_inv.high i).fits) l.i l.before c.next_word.result l.invariant.0 c.next_word.ensures c.popcount-before.result c.popcount-before.ensures in
    omega (arith, c.requires.1.number, count_mono (bit_at c.args.high.now) ((l.i + 1) * 64) (length c.args.high.now * 64) (omega arith))

pub loop-i-preserved : goal.loop-i-preserved
loop-i-preserved c =
    let l = c.loop-i in (
      pairs.count_on c.args.strict c.args.l c.args.high.now c.args.low.now (λ i. (c.type_inv.high i).fits) l.i l.before c.next_word.result l.invariant.0 c.next_word.ensures c.popcount-before.result c.popcount-before.ensures,
      pairs.risen_more c.args.strict c.args.l c.args.high.now c.args.low.now (λ i. (c.type_inv.high i).fits) l.i l.before c.next_word.result l.invariant.0 c.next_word.ensures l.invariant.1 (c.word_rises.ensures.yes c.if-not-word_rises.false),
    )

pub returns : goal.returns
returns c =
    it_is (pairs.risen_all c.args.strict c.args.l c.args.high.now c.args.low.now (subst (λ (n : ℕ). pairs.Risen c.args.strict c.args.l c.args.high.now c.args.low.now (n * 64)) (let e : c.loop-i.i ≡ length c.args.high.now = omega arith in e) c.loop-i.invariant.1))
