-- `broadword::select_in_word` meets its contract.
-- Assumes nothing.
use mathlib.Core.Path.{sym, subst}
use Prim.Native.Nat.{ℕ, ◌≤◌, ◌<◌}
use Rattle.broadword.specs.Bits.{bit}
use Rattle.broadword.proofs.Find.{select_none}
use Rattle.broadword.proofs.select_in_word.Goals as goal

pub returns-then-popcount-k : goal.returns-then-popcount-k
returns-then-popcount-k c =
    let s = c.before.before in
    sym (select_none (bit s.args.x) 64 s.args.k (subst (λ (n : ℕ). n ≤ s.args.k) c.popcount.ensures c.if-popcount-k.true))

pub select_in_word_within-requires : goal.select_in_word_within-requires
select_in_word_within-requires c =
    let s = c.before.before in
    subst (λ (n : ℕ). s.args.k < n) c.popcount.ensures c.if-popcount-k.false

pub returns : goal.returns
returns c = sym c.select_in_word_within.ensures
