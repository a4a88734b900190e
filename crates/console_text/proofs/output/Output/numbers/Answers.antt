-- `console_text::output::Output::numbers` meets its contract. Assumes nothing.
use mathlib.Core.Path.{sym, ap, ◌∙◌}
use native.Mathlib.Omega.{arith}
use Prim.Native.Nat.{◌-◌}
use lib.ListN.{length, take, drop}
use Rattle.console_text.specs.Gathered.{Gathered, with_list}
use Rattle.console_text.specs.Held.{held}
use Rattle.console_text.proofs.Gathering.{numbers_none, numbers_some}
use Rattle.console_text.proofs.output.Output.numbers.Goals as goal

pub returns-in_default : goal.returns-in_default
returns-in_default c = sym (numbers_none (held c.args.self.now) c.args.xs.now (omega (arith, c.in_default.len_below)))

pub returns-in-len1-up : goal.returns-in-len1-up
returns-in-len1-up c =
    let a = c.args in
    c.list.ensures ∙ ap (λ (g : Gathered). with_list g (take (length a.xs.now - 1) (drop 1 a.xs.now))) c.number.ensures ∙ sym (numbers_some (held a.self.now) a.xs.now (λ e. omega (arith, c.in-len1-up.len_at_least, e)))
