-- The list that select shows of an accepted image is the list that it holds. Assumes nothing.
use mathlib.Core.Path.{◌≡◌, sym, ap, ◌∙◌}
use mathlib.Core.List.{List, ◌∷◌}
use mathlib.Core.Bool.{true}
use Prim.Native.Nat.{ℕ, zero, suc, ◌+◌, ◌≤◌, ◌<◌}
use native.Mathlib.Decide.{dec_lt}
use native.Mathlib.Nat.{lt_of_not-le}
use native.Mathlib.Omega.{arith}
use borrow.Author.Tests.{lt-ltb, le-ltb}
use lib.ListN.{length, get_or, drop, drop_of_length-le}
use lib.Seq.{drop-cons}
use Rattle.errors.specs.Answer.{Answer, value, none}
use Rattle.elias_fano.specs.Accept.{times, accepted}
use Rattle.elias_fano.specs.Ask.{Select, nth, ask, query}
use Rattle.elias_fano.proofs.Images.{is_fit}
use Rattle.elias_fano_model.specs.Demand3.{tell, shown_from, shown}

module _ (f : ℕ → Answer) (T : List ℕ) (in_List : (k : ℕ) → k < length T → f k ≡ value (get_or T k 0)) (past : (k : ℕ) → length T ≤ k → f k ≡ none) where
  shown_rest : (d k : ℕ) → length T < k + d → shown_from f d k ≡ drop k T
  shown_rest zero k h = sym (drop_of_length-le T {i = k} (omega arith))
  shown_rest (suc d) k h = go (shown_rest d (suc k)) (dec_lt k (length T))
    where
      go : (length T < suc k + d → shown_from f d (suc k) ≡ drop (suc k) T) → Dec (k < length T) → tell (f k) (shown_from f d (suc k)) ≡ drop k T
      go ih (yes l) = ap (λ (a : Answer). tell a (shown_from f d (suc k))) (in_List k l) ∙ ap (λ (r : List ℕ). get_or T k 0 ∷ r) (ih (omega arith)) ∙ sym (drop-cons T k 0 l)
      go ih (no g) = ap (λ (a : Answer). tell a (shown_from f d (suc k))) (past k (omega (arith, lt_of_not-le g))) ∙ sym (drop_of_length-le T {i = k} (omega (arith, lt_of_not-le g)))

module _ (i : List ℕ) (ok : accepted i ≡ true) where
  select_in : (k : ℕ) → k < length (times i) → query i (Select k) ≡ value (get_or (times i) k 0)
  unfolding query ask nth
  select_in k h = simp (ok, lt-ltb k (length (times i)) h)

  select-past : (k : ℕ) → length (times i) ≤ k → query i (Select k) ≡ none
  unfolding query ask nth
  select-past k h = simp (ok, le-ltb k (length (times i)) h)

  pub shown-times : shown i ≡ times i
  unfolding shown
  shown-times =
      let f = is_fit i ok in
      shown_rest (λ k. query i (Select k)) (times i) select_in select-past 16777217 0 (omega (arith, f.few, f.most))
