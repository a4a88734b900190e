-- `elias_fano_words::check::word_rises` meets its contract: the invariant says that the marks left decide.
-- Assumes nothing.
use Prim.Native.Nat.{◌+◌, ◌^◌, ◌<◌}
use Rattle.broadword.specs.Bits.{ones}
use Rattle.elias_fano_words.specs.Checks.{Held, Rises, Each}
use Rattle.elias_fano_words.proofs.check.word_rises.Given as goal

abbrev pub invariant-loop-left : goal.invariant-loop-left
invariant-loop-left l =
    (l.left < 2 ^ 64)
    × (Each l.marks (λ j. Rises l.strict l.l l.low (l.before + ones l.w j)) → Each l.left (λ j. Rises l.strict l.l l.low (l.before + ones l.w j)))
    × (Each l.left (λ j. Rises l.strict l.l l.low (l.before + ones l.w j)) → Each l.marks (λ j. Rises l.strict l.l l.low (l.before + ones l.w j)))
    × Each l.left (λ j. Held l.l l.low (l.before + ones l.w j + 2))

abbrev pub decreases-loop-left : goal.decreases-loop-left
decreases-loop-left l = l.left
