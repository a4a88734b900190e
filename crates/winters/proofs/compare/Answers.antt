-- `winters::compare` meets its contract. Assumes nothing.
use mathlib.Core.Path.{ap, ◌∙◌, subst}
use Rattle.std.specs.Prelude.{◌≡◌, List, ℕ, Result}
use Rattle.errors.specs.Answer.{leaves, of_result}
use Rattle.errors.specs.declared.Refusal.{Refusal}
use Rattle.errors.proofs.Passing as passing
use Rattle.winters.specs.Winters.{compare_of}
use Rattle.winters.proofs.Writing as writing
use Rattle.winters.proofs.compare.Goals as goal

pub returns : goal.returns
returns c =
    let i = c.in_ok-image.image in
    subst (λ (w : List ℕ). leaves (of_result c.compare_accepted.result) c.compare_accepted.new.out ≡ compare_of w c.args.seconds.now c.args.out.now) c.in_ok-image.ensures.0
    (writing.compare_opened i.words.now c.args.seconds.now c.args.out.now i.ok _ c.compare_accepted.ensures)

pub returns-in_err-image : goal.returns-in_err-image
returns-in_err-image c = ap (λ (r : Result ℕ Refusal). leaves (of_result r) c.args.out.now) (passing.refused_so _ _ c.from_residual.ensures.1) ∙ writing.compare_refused c.args.image.now c.args.seconds.now c.args.out.now _ c.in_err-image.ensures
