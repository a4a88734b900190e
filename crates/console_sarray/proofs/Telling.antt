-- Laws of the section's definitions, by cases. Assumes nothing.
use mathlib.Core.Path.{◌≡◌, sym, ap, ◌∙◌}
use mathlib.Core.Bool.{Bool}
use mathlib.Core.List.{List}
use Prim.Native.Nat.{ℕ}
use Rattle.sarray.specs.Ask.{SparseQuestion, sparse_query}
use Rattle.console_text.specs.Says.{answers}
use Rattle.console_sarray.specs.declared.Query.{Query}
use Rattle.console_sarray.specs.Commands.{question_of}

module _ (k : Query) (p len : ℕ) (c : Bool) (i : List ℕ) where
  pub question_at_lem : (q : SparseQuestion) (j : Query) → k ≡ j → question_of j p ≡ q → answers (sparse_query len c i q) ≡ answers (sparse_query len c i (question_of k p))
  question_at_lem q j e h = ap (λ (x : SparseQuestion). answers (sparse_query len c i x)) (sym (ap (λ (x : Query). question_of x p) e ∙ h))
