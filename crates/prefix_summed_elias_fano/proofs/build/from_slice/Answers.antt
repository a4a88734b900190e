-- `prefix_summed_elias_fano::build::from_slice` meets its contract.
-- Assumes nothing.
use Rattle.errors.specs.declared.Refusal.{Refusal}
use Rattle.std.specs.Prelude.{ℕ, Result}
use Rattle.errors.specs.Answer.{leaves, of_result}
use borrow.Author.Tests.{eqb-true, eqb-false}
use mathlib.Core.Path.{ap, ◌∙◌, sym}
use Rattle.errors.proofs.Passing as passing
use Rattle.prefix_summed_elias_fano.proofs.Cases as cases
use Rattle.prefix_summed_elias_fano.proofs.build.from_slice.Goals as goal

pub returns-then-is_empty : goal.returns-then-is_empty
returns-then-is_empty c = cases.from_none c.args.items.now c.args.buffer.now (eqb-true _ _ (sym c.is_empty.ensures ∙ c.if-is_empty.true))

pub write-requires : goal.write-requires
write-requires c = cases.passed c.args.items.now _ _ c.test.ensures _ c.in_ok-j.was

pub returns : goal.returns
returns c = let h = cases.passed c.args.items.now _ _ c.test.ensures _ c.in_ok-j.was in cases.from_done c.args.items.now c.args.buffer.now (eqb-false _ _ (sym c.is_empty.ensures ∙ c.if-is_empty.false)) (cases.slice_done c.args.items.now _ h.summable h.room) _ c.write.ensures.1 _ c.write.ensures.0

pub returns-in_err-j : goal.returns-in_err-j
returns-in_err-j c = ap (λ (r : Result ℕ Refusal). leaves (of_result r) c.args.buffer.now) (passing.refused_so _ _ c.from_residual.ensures.1) ∙ cases.from_refused c.args.items.now c.args.buffer.now (eqb-false _ _ (sym c.is_empty.ensures ∙ c.if-is_empty.false)) _ (cases.not_passed c.args.items.now _ _ c.test.ensures _ c.in_err-j.was)
