-- `elias_fano::builder::new` meets its contract.
-- Assumes nothing.
use Rattle.elias_fano.specs.declared.builder.Builder.{Builder}
use Rattle.errors.specs.declared.Refusal.{Refusal}
use Rattle.std.specs.Prelude.{Result}
use mathlib.Core.Path.{sym, ap, ◌∙◌, subst}
use mathlib.Core.List.{◌++◌}
use Prim.Native.Nat.{◌≤◌}
use lib.ListN.{length, drop, replicate}
use Rattle.errors.proofs.Passing as passing
use Rattle.errors.specs.Answer.{done}
use Rattle.elias_fano_words.specs.declared.sizes.Sizes.{Sizes}
use Rattle.elias_fano.specs.Made.{made, builder, nobody, of_pushed}
use Rattle.elias_fano.proofs.Cases as cases
use Rattle.elias_fano.proofs.Testing as testing
use Rattle.elias_fano.proofs.builder.new.Goals as goal

pub fill-requires : goal.fill-requires
fill-requires c = let h = testing.passed_new _ _ _ _ c.test_new.ensures _ c.in_ok-s.was in subst (λ (z : Sizes). z.start_len ≤ length c.args.buffer.now) (sym h.sizes) h.long

pub returns : goal.returns
returns c =
    let h = testing.passed_new _ _ _ _ c.test_new.ensures _ c.in_ok-s.was in
    ap (made done (builder c.args.universe c.args.num_vals 0 0)) (c.fill.ensures ∙ ap (λ (z : Sizes). replicate z.start_len 0 ++ drop z.start_len c.args.buffer.now) h.sizes)
    ∙ sym (cases.new_done c.args.universe c.args.num_vals c.args.buffer.now (testing.nothing_against_new _ _ _ _ h))

pub returns-in_err-s : goal.returns-in_err-s
returns-in_err-s c = ap (λ (r : Result Builder Refusal). of_pushed nobody r c.args.buffer.now) (passing.refused_so _ _ c.from_residual.ensures.1) ∙ sym (cases.new_refused _ _ _ _ (testing.refused_new _ _ _ _ c.test_new.ensures _ c.in_err-s.was))
