-- `elias_fano::builder::push` meets its contract.
-- Assumes nothing.
use Rattle.elias_fano.specs.declared.builder.Builder.{Builder}
use Rattle.errors.specs.declared.Refusal.{Refusal}
use Rattle.std.specs.Prelude.{Result}
use mathlib.Core.Path.{sym, ap, ◌∙◌}
use Prim.Native.Nat.{◌+◌}
use native.Mathlib.Omega.{arith}
use Rattle.errors.proofs.Passing as passing
use Rattle.errors.specs.Answer.{done}
use Rattle.elias_fano.specs.Made.{made, builder, of_pushed}
use Rattle.elias_fano.proofs.Cases as cases
use Rattle.elias_fano.proofs.Testing as testing
use Rattle.elias_fano.proofs.builder.push.Goals as goal

pub file-requires : goal.file-requires
file-requires c = testing.passed_push _ _ _ _ c.test_push.ensures _ c.in_ok-s.was

pub overflow_add-result : goal.overflow_add-result
overflow_add-result c = let h = testing.passed_push _ _ _ _ c.test_push.ensures _ c.in_ok-s.was in let k = testing.known _ _ _ h.roomy in record { fits = omega (arith, k.few, k.most) }

pub returns : goal.returns
returns c =
    let h = testing.passed_push _ _ _ _ c.test_push.ensures _ c.in_ok-s.was in
    ap (made done (builder c.args.b.universe c.args.b.num_vals (c.args.b.num_pushed + 1) c.args.val)) c.file.ensures
    ∙ sym (cases.push_done c.args.b c.args.val c.args.buffer.now (testing.nothing_against_push _ _ _ _ h))

pub returns-in_err-s : goal.returns-in_err-s
returns-in_err-s c = ap (λ (r : Result Builder Refusal). of_pushed c.args.b r c.args.buffer.now) (passing.refused_so _ _ c.from_residual.ensures.1) ∙ sym (cases.push_refused _ _ _ _ (testing.refused_push _ _ _ _ c.test_push.ensures _ c.in_err-s.was))
