-- `decimal::parse` meets its contract. Assumes nothing.
use mathlib.Core.Path.{sym, ◌∙◌}
use borrow.Author.Rules.{rules}
use Rattle.decimal.proofs.Reading.{parse_none, parse_digits, parse_other}
use Rattle.decimal.proofs.parse.Goals as goal
use Rattle.decimal.proofs.parse.Goals.{then-is_empty-via-then-is_empty, then-is_empty-via-else-is_empty+then-not-all_digits}

pub returns-then-is_empty : goal.returns-then-is_empty
returns-then-is_empty c =
    elim c.then-is_empty.branch [
      | then-is_empty-via-then-is_empty w ↦ sym (parse_none _ (search rules))
      | then-is_empty-via-else-is_empty+then-not-all_digits w ↦ sym (parse_other _ (search rules) (sym w.all_digits.ensures ∙ w.if-not-all_digits.true))
    ]

pub returns : goal.returns
returns c = c.value.ensures ∙ sym (parse_digits _ (search rules) (sym c.all_digits.ensures ∙ c.if-not-all_digits.false))
