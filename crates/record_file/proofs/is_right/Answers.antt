-- `record_file::is_right` meets its contract. Assumes nothing.
use Rattle.darray.specs.Pending.{Decides}
use Rattle.record_file.specs.Stored.{Right}
use Rattle.record_file.proofs.Restoring.{resumes}
use Rattle.std.proofs.Common.{Bool, subst, sym, ◌∙◌}
use Rattle.record_file.proofs.is_right.Goals as goal

pub returns-then-sum-check : goal.returns-then-sum-check
returns-then-sum-check c =
    let s = c.args in
    let d = resumes s.b s.words.now c.resume.result c.resume.ensures in
    subst (λ (v : Bool). Decides v (Right s.b s.check s.words.now)) (sym c.is_ok.ensures.value)
    (record {
      yes = λ q. record { summed = sym c.if-sum-check.true ∙ c.sum.ensures; resumed = d.yes q };
      no = λ q r. d.no q r.resumed;
    })
