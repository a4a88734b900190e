-- `weekly_windows::count` meets its contract. Assumes nothing.
use Rattle.std.specs.Prelude.{◌≡◌, List, ℕ}
use mathlib.Core.Path.{ap, ◌∙◌, subst}
use Rattle.errors.specs.Answer.{of_result}
use Rattle.errors.proofs.Passing as passing
use Rattle.weekly_windows.specs.Windows.{count_of}
use Rattle.weekly_windows.proofs.Counting as counting
use Rattle.weekly_windows.proofs.count.Goals as goal

pub returns : goal.returns
returns c =
    let i = c.in_ok-image.image in
    subst (λ (w : List ℕ). of_result c.count_opened.result ≡ count_of w c.args.windows.now c.args.s c.args.e) c.in_ok-image.ensures.0
    (counting.count_opened i.words.now _ _ _ i.ok _ c.count_opened.ensures)

pub returns-in_err-image : goal.returns-in_err-image
returns-in_err-image c = ap of_result (passing.refused_so _ _ c.from_residual.ensures.1) ∙ counting.count_refused _ _ _ _ _ c.in_err-image.ensures
