-- `prefix_summed_elias_fano::walk::start_items` meets its contract.
-- Assumes nothing.
use Rattle.std.specs.Prelude.{◌≡◌, List, ℕ, length, Ok}
use borrow.Author.Tests.{eqb-true, eqb-false}
use mathlib.Core.Path.{subst, subst⁻¹, sym, ◌∙◌}
use Rattle.errors.proofs.Passing as passing
use Rattle.prefix_summed_elias_fano.specs.Items.{StartsItems}
use Rattle.prefix_summed_elias_fano.proofs.Taking as taking
use Rattle.prefix_summed_elias_fano.proofs.walk.start_items.Goals as goal

pub returns-then-is_empty : goal.returns-then-is_empty
returns-then-is_empty c = taking.starts_none c.args.image.now (eqb-true _ _ (sym c.is_empty.ensures ∙ c.if-is_empty.true)) c.args.k _ c.begin_none.ensures.0 c.begin_none.ensures.1

pub returns : goal.returns
returns c =
    let r = c.begin_items.ensures in
    let i = c.in_ok-image.image in
    let e = c.in_ok-image.ensures.0 in
    subst (λ (w : List ℕ). StartsItems w c.args.k (Ok c.begin_items.result)) e
    (taking.starts_opened i.words.now (subst⁻¹ (λ (w : List ℕ). length w ≡ 0 → ⊥) e (eqb-false _ _ (sym c.is_empty.ensures ∙ c.if-is_empty.false))) i.ok c.args.k _ r.0 r.1 r.2)

pub returns-in_err-image : goal.returns-in_err-image
returns-in_err-image c = subst⁻¹ (StartsItems c.args.image.now c.args.k) (passing.refused_so _ _ c.from_residual.ensures.1) (taking.starts_refused c.args.image.now (eqb-false _ _ (sym c.is_empty.ensures ∙ c.if-is_empty.false)) _ c.args.k c.in_err-image.ensures)
