-- `elias_fano_words::check::word_rises` meets its contract: the invariant says that the marks left decide.
-- Assumes nothing.
use Prim.Native.Nat.{◌+◌}
use native.Mathlib.Nat.{le_of_lt, lt_of_le_of_lt}
use native.Mathlib.Omega.{arith}
use Rattle.broadword.specs.Bits.{ones}
use Rattle.darray.proofs.Matching.{it_is, it_is_not}
use Rattle.elias_fano_words.specs.Checks.{Held, Rises}
use Rattle.elias_fano_words.proofs.Marks as marks
use Rattle.elias_fano_words.proofs.check.word_rises.Goals as goal

-- the pair at the lowest mark is held
held : (c : goal.After-popcount) → Held c.args.l c.args.low.now (c.args.before + c.popcount.result + 2)
held c =
    let l = c.loop-left in
    marks.mark_held l.left c.loop-left-test.true l.invariant.0 c.args.strict c.args.low.now c.args.l c.args.w c.args.before c.popcount.result c.popcount.ensures l.invariant.3

pub loop-left-init : goal.loop-left-init
loop-left-init c = (c.ranges.marks.fits, (λ a. a), (λ a. a), c.requires.1)

pub overflow_add-lowest : goal.overflow_add-lowest
overflow_add-lowest c = omega arith

pub overflow_sub-lowest : goal.overflow_sub-lowest
overflow_sub-lowest c = marks.lowest_pos c.loop-left.left c.loop-left-test.true c.loop-left.invariant.0

pub overflow_add-before : goal.overflow_add-before
overflow_add-before c =
    omega (arith, (held c).number)

pub rises-requires : goal.rises-requires
rises-requires c = (c.requires.0, held c)

pub returns-then-not-rises : goal.returns-then-not-rises
returns-then-not-rises c =
    let l = c.loop-left in
    it_is_not (λ a. marks.mark_falls l.left c.loop-left-test.true l.invariant.0 c.args.strict c.args.low.now c.args.l c.args.w c.args.before c.popcount.result c.popcount.ensures c.rises.result c.rises.ensures c.if-not-rises.true-raw (l.invariant.1 a))

pub overflow_sub-left : goal.overflow_sub-left
overflow_sub-left c = marks.lowest_le c.loop-left.left c.loop-left-test.true c.loop-left.invariant.0

pub loop-left-smaller : goal.loop-left-smaller
loop-left-smaller c = marks.left_less c.loop-left.left c.loop-left-test.true c.loop-left.invariant.0

pub loop-left-preserved : goal.loop-left-preserved
loop-left-preserved c =
    let l = c.loop-left in (
      lt_of_le_of_lt (le_of_lt (marks.left_less l.left c.loop-left-test.true l.invariant.0)) l.invariant.0,
      (λ a. marks.each_left l.left c.loop-left-test.true l.invariant.0 (λ j. Rises c.args.strict c.args.l c.args.low.now (c.args.before + ones c.args.w j)) (l.invariant.1 a)),
      (λ a. l.invariant.2 (marks.mark_rises l.left c.loop-left-test.true l.invariant.0 c.args.strict c.args.low.now c.args.l c.args.w c.args.before c.popcount.result c.popcount.ensures c.rises.result c.rises.ensures c.if-not-rises.false-raw a)),
      marks.each_left l.left c.loop-left-test.true l.invariant.0 (λ j. Held c.args.l c.args.low.now (c.args.before + ones c.args.w j + 2)) l.invariant.3,
    )

pub returns : goal.returns
returns c = it_is (c.loop-left.invariant.2 (λ j b. absurd (marks.no_mark c.loop-left.left j c.loop-left-test.false b)))
