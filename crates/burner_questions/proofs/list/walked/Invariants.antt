-- `burner_questions::list::walked` is safe and ends. The invariant: it is a walk over the image. Assumes nothing.
use Rattle.elias_fano_walk.specs.Walking.{WalkOver}
use Rattle.burner_questions.proofs.list.walked.Given as goal

abbrev pub invariant-loop : goal.invariant-loop
invariant-loop l = WalkOver l.image.words.now l.image.parts l.w
