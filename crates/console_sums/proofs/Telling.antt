-- Laws of the walk over the items. Assumes nothing.
use mathlib.Core.Path.{◌≡◌, refl, sym, ap, ap₂, ◌∙◌}
use mathlib.Core.Bool.{Bool, true, false, cond}
use mathlib.Core.List.{List, ◌∷◌}
use Prim.Native.Nat.{ℕ, zero, suc}
use Rattle.errors.specs.Answer.{Answer, refused}
use Rattle.prefix_summed_elias_fano.specs.Items.{askable, items_of}
use Rattle.prefix_summed_elias_fano.proofs.Gaps.{access_is}
use Rattle.console_text.specs.Gathered.{Gathered, with_refusal, with_answer}
use Rattle.console_questions.specs.Questions.{with_answers, nexts_from}
use Rattle.console_sums.specs.Commands.{accesses_of, walk_items_of}

module _ (i : List ℕ) where
  -- a walk over the items answers each access
  accesses_by : askable i ≡ true → (j count : ℕ) → accesses_of i j count ≡ nexts_from (items_of i) j count
  unfolding accesses_of nexts_from
  accesses_by ok j zero = refl
  accesses_by ok j (suc count) = ap₂ (λ (a : Answer) (l : List Answer). a ∷ l) (access_is i j ok) (accesses_by ok (suc j) count)

  module _ (count : ℕ) (g : Gathered) where
    pub walk_started : (k : ℕ) → askable i ≡ true → k ≡ 0 → with_answers g (nexts_from (items_of i) k count) ≡ walk_items_of i count g
    unfolding walk_items_of
    walk_started k ok e =
        ap (λ (n : ℕ). with_answers g (nexts_from (items_of i) n count)) e
        ∙ ap (with_answers g) (sym (accesses_by ok 0 count))
        ∙ sym (ap (λ (a : Bool). cond a (with_answers g (accesses_of i 0 count)) (with_answer g (refused 7))) ok)

    pub walk_refused : (x : ℕ) → askable i ≡ false → x ≡ 7 → with_refusal g x ≡ walk_items_of i count g
    unfolding walk_items_of
    walk_refused x ok e = ap (with_refusal g) e ∙ sym (ap (λ (a : Bool). cond a (with_answers g (accesses_of i 0 count)) (with_refusal g 7)) ok)
