-- `console_record::Command::named` meets its contract. Assumes nothing.
use Rattle.std.proofs.Common.{rules, ◌≡◌, refl}
use Rattle.std.specs.Prelude.{codes}
use Rattle.std.proofs.lemmas.Slice.Eq.{text_from_reads}
use Rattle.console_record.proofs.Command.named.Goals as goal

pub returns-in-buffer : goal.returns-in-buffer
returns-in-buffer c = let e : c.args.name.now ≡ codes "buffer" = search (rules, text_from_reads) in rw e refl
