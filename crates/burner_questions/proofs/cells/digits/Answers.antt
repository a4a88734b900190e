-- `burner_questions::cells::digits` meets its contract. Assumes nothing.
use Rattle.std.proofs.Common.{◌∙◌, arith}
use Rattle.burner_questions.proofs.Columns.{digits_written}
use Rattle.burner_questions.proofs.cells.digits.Goals as goal

pub returns : goal.returns
returns c = let w = c.write in c.unwrap_or.ensures ∙ digits_written _ _ w.new.out w.result (omega arith) w.ensures
