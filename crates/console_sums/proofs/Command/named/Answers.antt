-- `console_sums::Command::named` meets its contract. Assumes nothing.
use Rattle.std.proofs.Common.{rules, ◌≡◌, refl}
use Rattle.std.specs.Prelude.{codes}
use Rattle.std.proofs.lemmas.Slice.Eq.{text_from_reads}
use Rattle.console_sums.proofs.Command.named.Goals as goal

pub returns-in-115 : goal.returns-in-115
returns-in-115 c = let e : c.args.name.now ≡ codes "sums_len" = search (rules, text_from_reads) in rw e refl

pub returns-in-115-2 : goal.returns-in-115-2
returns-in-115-2 c = let e : c.args.name.now ≡ codes "sums_access" = search (rules, text_from_reads) in rw e refl
