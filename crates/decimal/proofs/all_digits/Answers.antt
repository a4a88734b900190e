-- `decimal::all_digits` meets its contract. Assumes nothing.
use mathlib.Core.Path.{◌≡◌}
use mathlib.Core.Bool.{true}
use borrow.Author.Rules.{rules}
use Rattle.std.specs.Prelude.{◌↔◌, All}
use Rattle.decimal.specs.Decimal.{is_digit}
use Rattle.decimal.proofs.Reading.{tests_all}
use Rattle.decimal.proofs.all_digits.Goals as goal

pub returns : goal.returns
returns c =
    let h : (c.all.result ≡ true) ↔ All (λ b. is_digit b ≡ true) c.args.text.now = search rules in
    tests_all _ _ h
