-- `bit_words::last_before` meets its contract.
-- Assumes nothing.
use mathlib.Core.Path.{sym, ◌∙◌}
use native.Mathlib.Omega.{arith}
use Rattle.bit_words.proofs.Last as last_word
use Rattle.bit_words.proofs.last_before.Goals as goal

pub overflow_add-result : goal.overflow_add-result
overflow_add-result c = let l = (last_word.near c.args.words.now c.args.end c.window.result c.in-Some.bit c.if-end-lt-WORD_LEN.false c.requires.0 c.window.ensures (sym c.msb.ensures ∙ c.in-Some.is)).0 in omega (arith, c.well_formed, c.requires.0, c.if-end-lt-WORD_LEN.false)

pub returns-in-Some : goal.returns-in-Some
returns-in-Some c = (last_word.near c.args.words.now c.args.end c.window.result c.in-Some.bit c.if-end-lt-WORD_LEN.false c.requires.0 c.window.ensures (sym c.msb.ensures ∙ c.in-Some.is)).1
