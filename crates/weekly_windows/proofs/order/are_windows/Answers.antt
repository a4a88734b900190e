-- `weekly_windows::order::are_windows` meets its contract. Assumes nothing.
use mathlib.Core.Path.{◌∙◌}
use native.Mathlib.Omega.{arith}
use Rattle.weekly_windows.proofs.Pairs as pairs
use Rattle.weekly_windows.proofs.order.are_windows.Goals as goal

pub returns-then-words-gt-MAX_WORDS : goal.returns-then-words-gt-MAX_WORDS
returns-then-words-gt-MAX_WORDS c = pairs.windows_too_many _ (omega (arith, c.if-words-gt-MAX_WORDS.true))

pub returns : goal.returns
returns c = c.in_form.ensures ∙ pairs.windows_by_form c.args.words.now (omega (arith, c.if-words-gt-MAX_WORDS.false))
