-- Laws of the section's definitions. Assumes nothing.
use mathlib.Core.Path.{◌≡◌, refl, ap}
use mathlib.Core.List.{List, ◌∷◌}
use Prim.Native.Nat.{ℕ, zero, suc, ◌≤◌, ◌<◌}
use native.Mathlib.Omega.{arith}
use borrow.Author.Tests.{lt-ltb, eq-eqb}
use lib.Dec.{eqb}
use lib.ListN.{take, replicate}
use Rattle.std.specs.Prelude.{Some}
use Rattle.elias_fano.specs.Steps.{limit_of}
use Rattle.console_text.specs.declared.line.Arguments.{Arguments}
use Rattle.console_text.specs.Says.{answers}
use Rattle.console_questions.specs.declared.Command.TheVariants.{Limit}
use Rattle.console_questions.specs.Questions.{command_of}

-- the first words of equal ones
pub take_equal : (n m x : ℕ) → n ≤ m → take n (replicate m x) ≡ replicate n x
take_equal zero m x h = refl
take_equal (suc n) zero x h = absurd (omega arith)
take_equal (suc n) (suc m) x h = ap (λ (l : List ℕ). x ∷ l) (take_equal n m x (omega arith))

pub limit_says_lem : (r : Arguments) (i : List ℕ) → r.n ≡ 3 → r.c < 2 → command_of (Some Limit) r i ≡ answers (limit_of r.a r.b (eqb r.c 1))
limit_says_lem r i e h = simp (eq-eqb r.n 3 e, lt-ltb r.c 2 h)
