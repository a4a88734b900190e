-- `elias_fano::builder::test_new` meets its contract.
-- Assumes nothing.
use mathlib.Core.Path.{subst}
use Prim.Native.Nat.{◌≤◌, ◌<◌}
use Rattle.elias_fano_words.specs.declared.sizes.Sizes.{Sizes}
use Rattle.elias_fano.proofs.Cases as cases
use Rattle.elias_fano.proofs.builder.test_new.Goals as goal

pub returns-then-num_vals-eq0 : goal.returns-then-num_vals-eq0
returns-then-num_vals-eq0 c = cases.new_1 _ _ _ c.if-num_vals-eq0.true

pub returns-then-num_vals-gt-MAX_VALS : goal.returns-then-num_vals-gt-MAX_VALS
returns-then-num_vals-gt-MAX_VALS c = cases.new_2 _ _ _ c.if-num_vals-gt-MAX_VALS.true

pub returns-then-len-s : goal.returns-then-len-s
returns-then-len-s c = cases.new_3 _ _ _ c.if-num_vals-eq0.false c.if-num_vals-gt-MAX_VALS.false (subst (λ (z : Sizes). c.args.len < z.start_len) c.of_record-s.ensures c.if-len-s.true)

pub returns : goal.returns
returns c = record { some = c.if-num_vals-eq0.false; most = c.if-num_vals-gt-MAX_VALS.false; long = subst (λ (z : Sizes). z.start_len ≤ c.args.len) c.of_record-s.ensures c.if-len-s.false; sizes = c.of_record-s.ensures }
