-- What a walk answers, step by step. Assumes nothing.
use mathlib.Core.Path.{◌≡◌, refl, sym, ap, ap₂, ◌∙◌}
use mathlib.Core.Bool.{Bool, true, false, cond}
use mathlib.Core.List.{List, ◌∷◌}
use Prim.Native.Nat.{ℕ, zero, suc, ◌+◌, ◌≤◌}
use native.Mathlib.Omega.{arith}
use lib.Dec.{ltb}
use lib.ListN.{length}
use borrow.Author.Tests.{ltb-false, le-ltb}
use Rattle.errors.specs.Answer.{Answer, none, refused}
use Rattle.elias_fano.proofs.Answers as answers
use Rattle.elias_fano.specs.Accept.{times, accepted, parts, parts_of, unopened, open_of}
use Rattle.elias_fano.specs.declared.image.Parts.{Parts}
use Rattle.elias_fano.specs.Ask.{Next, nth, ask, query}
use Rattle.elias_fano_walk.specs.Walking.{value_step_of}
use Rattle.console_text.specs.Gathered.{Gathered, with_byte, with_refusal, with_answer}
use Rattle.console_questions.specs.Questions.{with_each, with_answers, nexts_from, nexts_of, walk_of}

module _ (T : List ℕ) where
  past : (k : ℕ) → length T ≤ k → nth T k ≡ none
  unfolding nth
  past k h = simp (le-ltb k (length T) h)

  -- past the end every answer is none, so it is all one where a walk stands
  pub nexts_past : (k count : ℕ) → length T ≤ k → nexts_from T k count ≡ nexts_from T (suc k) count
  unfolding nexts_from
  nexts_past k zero h = refl
  nexts_past k (suc count) h = ap (λ (a : Answer). a ∷ nexts_from T (suc k) count) (past k h ∙ sym (past (suc k) (omega arith))) ∙ ap (λ (l : List Answer). nth T (suc k) ∷ l) (nexts_past (suc k) count (omega arith))

  stepped_by : (b : Bool) (k count : ℕ) → ltb k (length T) ≡ b → nexts_from T (cond b (suc k) k) count ≡ nexts_from T (suc k) count
  stepped_by true k count e = refl
  stepped_by false k count e = nexts_past k count (ltb-false k (length T) e)

module _ (i : List ℕ) (k : ℕ) (ok : accepted i ≡ true) where
  next_answer : (j : ℕ) → query i (Next k j) ≡ nth (times i) (k + j)
  unfolding query ask
  next_answer j = simp ok

  nexts_by : (j x count : ℕ) → x ≡ k + j → nexts_of i k j count ≡ nexts_from (times i) x count
  unfolding nexts_of nexts_from
  nexts_by j x zero e = refl
  nexts_by j x (suc count) e =
      ap (λ (a : Answer). a ∷ nexts_of i k (suc j) count) (next_answer j ∙ sym (ap (nth (times i)) e))
      ∙ ap (λ (l : List Answer). nth (times i) x ∷ l) (nexts_by (suc j) (suc x) count (omega (arith, e)))

  -- over an accepted image a walk from k gives its times from the number k on
  pub nexts_all : (count : ℕ) → nexts_of i k 0 count ≡ nexts_from (times i) k count
  nexts_all count = nexts_by 0 k count (omega arith)

  pub walk_opened : (g : Gathered) (count : ℕ) → walk_of i k count g ≡ with_answers g (nexts_from (times i) k count)
  unfolding walk_of
  walk_opened g count = ap (λ (b : Bool). cond b (with_answers g (nexts_of i k 0 count)) (with_answer g (refused 7))) ok ∙ ap (with_answers g) (nexts_all count)

module _ (T : List ℕ) (g : Gathered) (k : ℕ) where
  -- where a step leaves a walk
  abbrev after : ℕ
  after = cond (ltb k (length T)) (suc k) k

  each_more : (d : ℕ) → with_each g (nexts_from T k (suc d)) ≡ with_each (with_answer (with_byte g 32) (nth T k)) (nexts_from T after d)
  unfolding with_each nexts_from
  each_more d = ap (with_each (with_answer (with_byte g 32) (nth T k))) (sym (stepped_by T (ltb k (length T)) k d refl))

  first_more : (d : ℕ) → with_answers g (nexts_from T k (suc d)) ≡ with_each (with_answer g (nth T k)) (nexts_from T after d)
  unfolding with_answers nexts_from
  first_more d = ap (with_each (with_answer g (nth T k))) (sym (stepped_by T (ltb k (length T)) k d refl))

  pub rest_done : (count : ℕ) → count ≡ 0 → with_each g (nexts_from T k count) ≡ g
  unfolding with_each nexts_from
  rest_done count e = ap (λ (x : ℕ). with_each g (nexts_from T k x)) e

  pub all_done : (count : ℕ) → count ≡ 0 → with_answers g (nexts_from T k count) ≡ g
  unfolding with_answers nexts_from
  all_done count e = ap (λ (x : ℕ). with_answers g (nexts_from T k x)) e

  -- the next answer, and those after it from where the step leaves the walk
  module _ (to : Gathered) (n count d : ℕ) (some : count ≡ suc d) (left : n ≡ (value_step_of T k).number) where
    at : n ≡ after
    unfolding value_step_of
    at = left

    pub rest_more : to ≡ with_answer (with_byte g 32) (value_step_of T k).answer → with_each g (nexts_from T k count) ≡ with_each to (nexts_from T n d)
    unfolding value_step_of
    rest_more e =
        ap (λ (x : ℕ). with_each g (nexts_from T k x)) some
        ∙ each_more d
        ∙ sym (ap₂ (λ (h : Gathered) (m : ℕ). with_each h (nexts_from T m d)) e at)

    pub all_more : to ≡ with_answer g (value_step_of T k).answer → with_answers g (nexts_from T k count) ≡ with_each to (nexts_from T n d)
    unfolding value_step_of
    all_more e =
        ap (λ (x : ℕ). with_answers g (nexts_from T k x)) some
        ∙ first_more d
        ∙ sym (ap₂ (λ (h : Gathered) (m : ℕ). with_each h (nexts_from T m d)) e at)

-- an image that is refused
pub refused_by_lem : (g : Gathered) (b : Bool) (x : ℕ) (p : Parts) (other : Gathered) → unopened x ≡ cond b (parts p) (unopened 7) → with_refusal g x ≡ cond b other (with_refusal g 7)
refused_by_lem g b x p other e =
    let h = answers.refused_by_lem b x p e in
    ap (with_refusal g) h.1 ∙ sym (ap (λ (a : Bool). cond a other (with_refusal g 7)) h.0)

pub walk_refused : (i : List ℕ) (k count : ℕ) (g : Gathered) (x : ℕ) → unopened x ≡ open_of i → with_refusal g x ≡ walk_of i k count g
unfolding open_of walk_of
walk_refused i k count g x e = refused_by_lem g (accepted i) x (parts_of i) (with_answers g (nexts_of i k 0 count)) e
