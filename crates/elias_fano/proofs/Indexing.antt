-- What it takes for both indexes of an image. Assumes nothing.
use mathlib.Core.Path.{◌≡◌, sym, ap, ◌∙◌}
use mathlib.Core.List.{List, []}
use mathlib.Core.Bool.{Bool, true, false, cond}
use Prim.Native.Nat.{ℕ, ◌-◌}
use lib.ListN.{take, drop}
use Rattle.darray_positions.specs.Index.{index_words}
use Rattle.darray.specs.Pending.{Decides}
use Rattle.darray_positions.specs.Positions.{positions}
use Rattle.broadword.proofs.Truth.{true_false}
use Rattle.elias_fano.specs.Accept.{ranked}
use Rattle.elias_fano.specs.Opening.{high_of, ones_in, zeros_in, high_in, Indexes}

module _ (i high ones zeros : List ℕ) (len : ℕ)
    (eh : high ≡ high_in i) (el : len ≡ high_of i) (eo : ones ≡ take (zeros_in i - ones_in i) (drop (ones_in i) i)) (ez : zeros ≡ drop (zeros_in i) i) where
  moved : (b : Bool) → index_words (positions b high len) ≡ index_words (positions b (high_in i) (high_of i))
  moved b = λ x. index_words (positions b (eh x) (el x))

  -- the first is another
  pub other_ones : (x : Bool) → Decides x (ones ≡ index_words (positions true high len)) → x ≡ false → Decides false (Indexes i)
  other_ones x d e = record { yes = λ t. absurd (true_false (sym t)); no = λ _ (s : Indexes i). d.no e (eo ∙ s.ones ∙ sym (moved true)) }

  first_is : (x : Bool) → Decides x (ones ≡ index_words (positions true high len)) → x ≡ true → take (zeros_in i - ones_in i) (drop (ones_in i) i) ≡ index_words (positions true (high_in i) (high_of i))
  first_is x d e = sym eo ∙ d.yes e ∙ moved true

  picked : (b : Bool) → ranked i ≡ b → cond (ranked i) (index_words (positions false (high_in i) (high_of i))) [] ≡ cond b (index_words (positions false (high_in i) (high_of i))) []
  picked b e = ap (λ (x : Bool). cond x (index_words (positions false (high_in i) (high_of i))) []) e

  -- it is right, and the second decides
  pub then_zeros : (x y : Bool) → Decides x (ones ≡ index_words (positions true high len)) → x ≡ true → ranked i ≡ true → Decides y (zeros ≡ index_words (positions false high len)) → Decides y (Indexes i)
  then_zeros x y d e c f = record {
    yes = λ t. record { ones = first_is x d e; zeros = sym ez ∙ f.yes t ∙ moved false ∙ sym (picked true c) };
    no = λ t (s : Indexes i). f.no t (ez ∙ s.zeros ∙ picked true c ∙ sym (moved false));
  }

  -- or there is no second
  pub no_second : (x : Bool) → Decides x (ones ≡ index_words (positions true high len)) → x ≡ true → ranked i ≡ false → drop (zeros_in i) i ≡ [] → Decides true (Indexes i)
  no_second x d e c n = record {
    yes = λ _. record { ones = first_is x d e; zeros = n ∙ sym (picked false c) };
    no = λ t. absurd (true_false t);
  }
