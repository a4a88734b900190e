-- `elias_fano_walk::read::read_from` meets its contract.
-- Assumes nothing.
use Rattle.std.specs.Prelude.{◌≡◌, List, ℕ, Result}
use mathlib.Core.Path.{ap, ◌∙◌, subst}
use Rattle.errors.specs.Answer.{value, leaves, of_result}
use Rattle.errors.specs.declared.Refusal.{Refusal}
use Rattle.errors.proofs.Passing as passing
use Rattle.elias_fano.specs.Ask.{read_from_of}
use Rattle.elias_fano_walk.proofs.Reading as reading
use Rattle.elias_fano_walk.proofs.read.read_from.Goals as goal

pub returns : goal.returns
returns c =
    let r = c.read_from_opened in
    let i = c.in_ok-image.image in
    subst (λ (w : List ℕ). leaves (value r.result) r.new.out ≡ read_from_of w c.args.k c.args.out.now) c.in_ok-image.ensures.0
    (reading.read_opened i.words.now c.args.k c.args.out.now i.ok r.result _ r.ensures.0 r.ensures.1)

pub returns-in_err-image : goal.returns-in_err-image
returns-in_err-image c = ap (λ (r : Result ℕ Refusal). leaves (of_result r) c.args.out.now) (passing.refused_so _ _ c.from_residual.ensures.1) ∙ reading.read_refused c.args.image.now c.args.k c.args.out.now _ c.in_err-image.ensures
