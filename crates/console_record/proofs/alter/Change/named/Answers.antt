-- `console_record::alter::Change::named` meets its contract. Assumes nothing.
use Rattle.std.proofs.Common.{rules, ◌≡◌, refl}
use Rattle.std.specs.Prelude.{codes}
use Rattle.std.proofs.lemmas.Slice.Eq.{text_from_reads}
use Rattle.console_record.proofs.alter.Change.named.Goals as goal

pub returns-in-finish : goal.returns-in-finish
returns-in-finish c = let e : c.args.name.now ≡ codes "finish" = search (rules, text_from_reads) in rw e refl

pub returns-in-resume : goal.returns-in-resume
returns-in-resume c = let e : c.args.name.now ≡ codes "resume" = search (rules, text_from_reads) in rw e refl

pub returns-in-reading : goal.returns-in-reading
returns-in-reading c = let e : c.args.name.now ≡ codes "reading" = search (rules, text_from_reads) in rw e refl
