-- `elias_fano_walk::search::ones_before` meets its contract.
-- Assumes nothing.
use mathlib.Core.Path.{sym, ◌∙◌}
use native.Mathlib.Omega.{arith}
use Rattle.elias_fano_walk.proofs.Halved as halved
use Rattle.elias_fano_walk.proofs.search.ones_before.Goals as goal

pub overflow_sub-result-in-Some : goal.overflow_sub-result-in-Some
overflow_sub-result-in-Some c = omega (arith, (halved.after_zero c.args.words.now c.args.place _ _ c.if-place-lt-WORD_LEN.false c.requires c.window.ensures (sym c.msb.ensures ∙ c.in-Some.is)).0)

pub returns-in-Some : goal.returns-in-Some
returns-in-Some c = λ _. (halved.after_zero c.args.words.now c.args.place _ _ c.if-place-lt-WORD_LEN.false c.requires c.window.ensures (sym c.msb.ensures ∙ c.in-Some.is)).1
