-- `elias_fano::builder::build` meets its contract.
-- Assumes nothing.
use Rattle.errors.specs.declared.Refusal.{Refusal}
use Rattle.std.specs.Prelude.{Result}
use mathlib.Core.Path.{sym, ap₂, ◌∙◌, ap}
use mathlib.Core.List.{List}
use Prim.Native.Nat.{ℕ}
use Rattle.errors.proofs.Passing as passing
use Rattle.errors.specs.Answer.{value}
use Rattle.elias_fano.specs.Made.{made, of_built}
use Rattle.elias_fano.proofs.Cases as cases
use Rattle.elias_fano.proofs.Testing as testing
use Rattle.elias_fano.proofs.builder.build.Goals as goal

pub write_image-requires : goal.write_image-requires
write_image-requires c = testing.passed_build _ _ _ _ c.test_build.ensures _ c.in_ok-s.was

pub returns : goal.returns
returns c =
    let h = testing.passed_build _ _ _ _ c.test_build.ensures _ c.in_ok-s.was in
    let e = c.write_image.ensures in
    ap₂ (λ (k : ℕ) (w : List ℕ). made (value k) c.args.b w) e.1 e.0
    ∙ sym (cases.build_done c.args.b c.args.rank c.args.buffer.now (testing.nothing_against_build _ _ _ _ h))

pub returns-in_err-s : goal.returns-in_err-s
returns-in_err-s c = ap (λ (r : Result ℕ Refusal). of_built c.args.b r c.args.buffer.now) (passing.refused_so _ _ c.from_residual.ensures.1) ∙ sym (cases.build_refused _ _ _ _ (testing.refused_build _ _ _ _ c.test_build.ensures _ c.in_err-s.was))
