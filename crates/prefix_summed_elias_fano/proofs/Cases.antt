-- The calls case by case. Assumes nothing.
use Rattle.std.specs.Prelude.{Ok, Err, Some, None, Result, Option}
use mathlib.Core.Path.{◌≡◌, sym, ap, ◌∙◌, subst}
use mathlib.Core.List.{List, ◌++◌}
use mathlib.Core.Bool.{Bool, cond}
use Prim.Native.Nat.{ℕ, ◌-◌, ◌^◌, ◌≤◌, ◌<◌}
use borrow.Author.Tests.{lt-ltb, le-ltb, le-leb, lt-leb, eq-eqb, ne_eqb}
use lib.ListN.{length, drop}
use Rattle.errors.specs.Answer.{Answer, value, none, done, refused, Outcome, leaves, passing}
use Rattle.errors.specs.Refusal.{number_of}
use Rattle.errors.specs.declared.Refusal.{Refusal}
use Rattle.elias_fano.specs.Ask.{Delta, Len, query}
use Rattle.prefix_summed_elias_fano.specs.Building.{Summable, Ready, Tests, SumOf}
use Rattle.prefix_summed_elias_fano.specs.Sums.{sum, sums_image, slice_test, from_slice_of, access_of, len_of}
use Rattle.prefix_summed_elias_fano.specs.declared.build.Job.{Job}

-- ---- the tests

module _ (A : List ℕ) (k : ℕ) where
  pub slice_2 : 16777216 < length A → slice_test A k ≡ refused 2
  unfolding slice_test
  slice_2 h = simp (lt-ltb 16777216 (length A) h)

  pub slice_12 : length A ≤ 16777216 → 2 ^ 64 - 1 ≤ sum A → slice_test A k ≡ refused 12
  unfolding slice_test
  slice_12 h g = simp (le-ltb 16777216 (length A) h, le-leb (2 ^ 64 - 1) (sum A) g)

  module _ (ok : Summable A) where
    pub slice_3 : k < length (sums_image A) → slice_test A k ≡ refused 3
    unfolding slice_test
    slice_3 h = simp (le-ltb 16777216 (length A) ok.most, lt-leb (2 ^ 64 - 1) (sum A) ok.small, lt-ltb k (length (sums_image A)) h)

    pub slice_done : length (sums_image A) ≤ k → slice_test A k ≡ done
    unfolding slice_test
    slice_done h = simp (le-ltb 16777216 (length A) ok.most, lt-leb (2 ^ 64 - 1) (sum A) ok.small, le-ltb k (length (sums_image A)) h)

  module _ (r : Result Job Refusal) (t : Tests A k r) where
    pub passed : (j : Job) → r ≡ Ok j → Ready A k j
    passed j e = subst (Tests A k) e t

    pub not_passed : (x : Refusal) → r ≡ Err x → slice_test A k ≡ refused (number_of x)
    not_passed x e = subst (Tests A k) e t

-- ---- the sum

module _ (A : List ℕ) (r : Option ℕ) (t : SumOf A r) where
  pub sum_is : (s : ℕ) → r ≡ Some s → (s ≡ sum A) × (s < 2 ^ 64 - 1)
  sum_is s e = subst (SumOf A) e t

  pub too_large : r ≡ None → 2 ^ 64 - 1 ≤ sum A
  too_large e = subst (SumOf A) e t

-- ---- the call

module _ (A w : List ℕ) where
  abbrev wrote : Outcome
  wrote = leaves (value (length (sums_image A))) (sums_image A ++ drop (length (sums_image A)) w)

  pub from_none : length A ≡ 0 → leaves (value 0) w ≡ from_slice_of A w
  unfolding from_slice_of
  from_none e = sym (ap (λ (b : Bool). cond b (leaves (value 0) w) (passing (slice_test A (length w)) w wrote)) (eq-eqb (length A) 0 e))

  module _ (some : length A ≡ 0 → ⊥) where
    tested_by : from_slice_of A w ≡ passing (slice_test A (length w)) w wrote
    unfolding from_slice_of
    tested_by = ap (λ (b : Bool). cond b (leaves (value 0) w) (passing (slice_test A (length w)) w wrote)) (ne_eqb (length A) 0 some)

    pub from_refused : (k : ℕ) → slice_test A (length w) ≡ refused k → leaves (refused k) w ≡ from_slice_of A w
    from_refused k e = sym (tested_by ∙ ap (λ (a : Answer). passing a w wrote) e)

    pub from_done : slice_test A (length w) ≡ done → (k : ℕ) → k ≡ length (sums_image A) → (x : List ℕ) → x ≡ sums_image A ++ drop (length (sums_image A)) w → leaves (value k) x ≡ from_slice_of A w
    from_done e k ek x ex = (λ i. leaves (value (ek i)) (ex i)) ∙ sym (tested_by ∙ ap (λ (a : Answer). passing a w wrote) e)

-- ---- the questions

module _ (i : List ℕ) where
  pub access_none : (p : ℕ) → length i ≡ 0 → none ≡ access_of i p
  unfolding access_of
  access_none p e = sym (ap (λ (b : Bool). cond b none (query i (Delta p))) (eq-eqb (length i) 0 e))

  pub access_some : (p : ℕ) → (length i ≡ 0 → ⊥) → query i (Delta p) ≡ access_of i p
  unfolding access_of
  access_some p h = sym (ap (λ (b : Bool). cond b none (query i (Delta p))) (ne_eqb (length i) 0 h))

  pub len_none : length i ≡ 0 → value 0 ≡ len_of i
  unfolding len_of
  len_none e = sym (ap (λ (b : Bool). cond b (value 0) (query i Len)) (eq-eqb (length i) 0 e))

  pub len_some : (length i ≡ 0 → ⊥) → query i Len ≡ len_of i
  unfolding len_of
  len_some h = sym (ap (λ (b : Bool). cond b (value 0) (query i Len)) (ne_eqb (length i) 0 h))
