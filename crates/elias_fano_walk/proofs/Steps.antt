-- The steps of a walk, one after the other: each gives what the question `Next` says. Assumes nothing.
use mathlib.Core.Path.{◌≡◌, sym, ap, ◌∙◌}
use mathlib.Core.List.{List}
use mathlib.Core.Bool.{Bool, cond}
use Prim.Native.Nat.{ℕ, zero, suc, ◌+◌, ◌≤◌, ◌<◌}
use native.Mathlib.Decide.{dec_lt}
use native.Mathlib.Nat.{lt_of_not-le}
use native.Mathlib.Omega.{arith}
use borrow.Author.Tests.{lt-ltb, le-ltb}
use lib.ListN.{length, get_or}
use Rattle.errors.specs.Answer.{value, none}
use Rattle.elias_fano.specs.Ask.{nth, ask}
use Rattle.elias_fano_walk.specs.Walking.{value_step_of, walked, Walks}

module _ (T : List ℕ) where
  none_past : (k : ℕ) → length T ≤ k → nth T k ≡ none
  unfolding nth
  none_past k h = ap (λ (b : Bool). cond b (value (get_or T k 0)) none) (le-ltb k (length T) h)

  goes_on : (k : ℕ) → k < length T → (value_step_of T k).number ≡ suc k
  unfolding value_step_of
  goes_on k h = ap (λ (b : Bool). cond b (suc k) k) (lt-ltb k (length T) h)

  stays : (k : ℕ) → length T ≤ k → (value_step_of T k).number ≡ k
  unfolding value_step_of
  stays k h = ap (λ (b : Bool). cond b (suc k) k) (le-ltb k (length T) h)

  step_is : (k j : ℕ) → walked T k j ≡ nth T (k + j)
  unfolding walked value_step_of
  step_is k zero = ap (nth T) (let e : k ≡ k + 0 = omega arith in e)
  step_is k (suc j) = go (λ i. step_is i j) (dec_lt k (length T))
    where
      go : ((i : ℕ) → walked T i j ≡ nth T (i + j)) → Dec (k < length T) → walked T (value_step_of T k).number j ≡ nth T (k + suc j)
      go ih (yes h) = ap (λ (i : ℕ). walked T i j) (goes_on k h) ∙ ih (suc k) ∙ ap (nth T) (let e : suc k + j ≡ k + suc j = omega arith in e)
      go ih (no g) =
          let h : length T ≤ k = omega (arith, lt_of_not-le g) in
          ap (λ (i : ℕ). walked T i j) (stays k h) ∙ ih k ∙ none_past (k + j) (omega arith) ∙ sym (none_past (k + suc j) (omega arith))

pub walks : Walks
unfolding ask
walks u n c T k j = step_is T k j
