-- `console_sums::build::answer` meets its contract. Assumes nothing.
use lib.ListN.{drop}
use Rattle.console_text.specs.Line.{fields}
use Rattle.console_text.proofs.Reading.{numbers_length}
use Rattle.console_sums.proofs.build.answer.Goals as goal

pub stored-requires : goal.stored-requires
stored-requires c = let a = c.args in (numbers_length (fields (drop a.end a.text.now)) c.in-Some.r c.in-Some.ensures, c.if-r-le32768.true)
