-- Demand 2: every question of the image that a run leaves is that of the accepted times. Assumes nothing.
use mathlib.Core.Path.{◌≡◌, ap, ◌∙◌, subst⁻¹}
use mathlib.Core.List.{List, []}
use mathlib.Core.Bool.{Bool, true, cond}
use Prim.Native.Nat.{ℕ}
use lib.ListN.{length}
use Rattle.errors.specs.Answer.{leaves}
use Rattle.elias_fano_words.specs.Image.{image}
use Rattle.elias_fano.specs.Accept.{times, accepted}
use Rattle.elias_fano.specs.Ask.{ReadFrom, query, filled, read_from_of}
use Rattle.elias_fano.proofs.Images.{Fits, image-accepted, image-times, image-query}
use Rattle.elias_fano_model.specs.Model.{times_from, choice_from}
use Rattle.elias_fano_model.specs.Demand2.{Answers, Demand2}
use Rattle.elias_fano_model.proofs.Book.{times_fit, written_image}

module _ (u n : ℕ) (c : Bool) (T : List ℕ) (f : Fits u n T) where
  abbrev I : List ℕ
  I = image u n c T

  ok : accepted I ≡ true
  ok = image-accepted u n c T f

  answers : Answers u n c T I
  unfolding read_from_of
  answers = record {
    question = image-query u n c T f;
    reading_out = λ k out.
        ap (λ (b : Bool). leaves (query I (ReadFrom k (length out))) (cond b (filled (times I) k out) out)) ok
        ∙ (λ x. leaves (image-query u n c T f (ReadFrom k (length out)) x) (filled (image-times u n c T f x) k out));
  }

pub demand2 : Demand2
demand2 u n lent calls b k e =
    subst⁻¹ (Answers u n (choice_from u n lent [] calls) (times_from u n lent [] calls)) (written_image u n lent b calls k e)
    (answers u n (choice_from u n lent [] calls) (times_from u n lent [] calls) (times_fit u n lent b calls k e))
