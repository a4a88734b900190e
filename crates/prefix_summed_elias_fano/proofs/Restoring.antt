-- What `from_slice` writes is read again by `access` and `len`. Assumes nothing.
use mathlib.Core.Path.{◌≡◌, refl, sym, ap, ap₂, ◌∙◌, subst, subst⁻¹}
use mathlib.Core.List.{List, [], ◌∷◌, ◌++◌}
use mathlib.Core.Bool.{Bool, true, false, cond}
use Prim.Native.Nat.{ℕ, zero, suc, ◌+◌, ◌-◌, ◌^◌, ◌≤◌, ◌<◌}
use native.Mathlib.Decide.{dec_lt}
use native.Mathlib.Nat.{lt_of_not-le}
use native.Mathlib.Omega.{arith}
use borrow.Author.Tests.{le-ltb, ne_eqb, ltb-false, leb-false}
use lib.Dec.{eqb, leb, ltb}
use lib.ListN.{length, get_or, take, drop}
use lib.Seq.{take-append_seam}
use Rattle.errors.specs.Answer.{Answer, value, none, done, refused, Outcome, leaves, passing}
use Rattle.elias_fano.specs.Ask.{Question, Delta, Len, nth, gap, ask, query}
use Rattle.elias_fano.proofs.Answers.{value_inj, refused_value}
use Rattle.elias_fano.proofs.Images.{image-query}
use Rattle.prefix_summed_elias_fano.specs.Building.{Summable}
use Rattle.prefix_summed_elias_fano.specs.Sums.{sum, sums, sums_image, slice_test, from_slice_of, access_of, len_of, Restored, ReadsBack}
use Rattle.prefix_summed_elias_fano.proofs.Filing as filing
use Rattle.prefix_summed_elias_fano.proofs.Sums as sums-law

-- ---- the gaps of the prefix sums are the items

module _ (A : List ℕ) where
  before_is : (p : ℕ) → p < length A → get_or (0 ∷ sums A) p 0 ≡ sum (take p A)
  before_is zero h = sym sums-law.sum_none
  before_is (suc p) h = sums-law.get_d_sums A p (let d : p < length A = omega arith in d)

  item_is : (p : ℕ) → p < length A → get_or (sums A) p 0 - get_or (0 ∷ sums A) p 0 ≡ get_or A p 0
  item_is p h =
      let a = sums-law.get_d_sums A p h in
      let b = before_is p h in
      let c = sums-law.sum_next A p h in
      ap₂ (λ (x y : ℕ). x - y) (a ∙ c) b ∙ (let d : (x y : ℕ) → x + y - x ≡ y = λ x y. omega arith in d (sum (take p A)) (get_or A p 0))

  gap_is : (p : ℕ) → gap (sums A) p ≡ nth A p
  unfolding gap nth
  gap_is p = go (dec_lt p (length A))
    where
      m : length (sums A) ≡ length A
      m = sums-law.length-sums 0 A

      go : Dec (p < length A) → cond (ltb p (length (sums A))) (value (get_or (sums A) p 0 - get_or (0 ∷ sums A) p 0)) none ≡ cond (ltb p (length A)) (value (get_or A p 0)) none
      go (yes h) = ap₂ (λ (k x : ℕ). cond (ltb p k) (value x) none) m (item_is p h)
      go (no g) =
          let h : length A ≤ p = omega (arith, lt_of_not-le g) in
          ap (λ (b : Bool). cond b (value (get_or (sums A) p 0 - get_or (0 ∷ sums A) p 0)) none) (le-ltb p (length (sums A)) (omega (arith, m)))
          ∙ sym (ap (λ (b : Bool). cond b (value (get_or A p 0)) none) (le-ltb p (length A) h))

-- ---- of the image

module _ (A : List ℕ) (ok : Summable A) where
  abbrev I : List ℕ
  I = sums_image A

  query_is : (q : Question) → query I q ≡ ask (suc (sum A)) (length A) false (sums A) q
  unfolding sums_image
  query_is q = image-query (suc (sum A)) (length A) false (sums A) (filing.fits A ok) q

  some_words : eqb (length I) 0 ≡ false
  some_words = ne_eqb (length I) 0 (λ e. let a = filing.six_le A ok in omega arith)

  restored : Restored A I
  unfolding access_of len_of ask
  restored = record {
    access = λ p. ap (λ (b : Bool). cond b none (query I (Delta p))) some_words ∙ query_is (Delta p) ∙ gap_is A p;
    len = ap (λ (b : Bool). cond b (value 0) (query I Len)) some_words ∙ query_is Len ∙ ap value (sums-law.length-sums 0 A);
  }

-- ---- of no items

none_held : Restored [] []
unfolding access_of len_of nth
none_held = record { access = λ p. sym (ap (λ (b : Bool). cond b (value (get_or {A = ℕ} [] p 0)) none) (le-ltb p 0 (omega arith))); len = refl }

-- ---- whatever the call was given

module _ (A w : List ℕ) (k : ℕ) (x : List ℕ) where
  abbrev wrote : Outcome
  wrote = leaves (value (length (sums_image A))) (sums_image A ++ drop (length (sums_image A)) w)

  -- the tests by their three questions
  abbrev test : Bool → Bool → Bool → Answer
  test a b c = cond a (refused 2) (cond b (refused 12) (cond c (refused 3) done))

  by_tests : 0 < length A → (a b c : Bool) → ltb 16777216 (length A) ≡ a → leb (2 ^ 64 - 1) (sum A) ≡ b → passing (test a b c) w wrote ≡ leaves (value k) x → Restored A (take k x)
  by_tests h true b c ea eb e = absurd (refused_value 2 k (ap (λ (o : Outcome). o.answer) e))
  by_tests h false true c ea eb e = absurd (refused_value 12 k (ap (λ (o : Outcome). o.answer) e))
  by_tests h false false true ea eb e = absurd (refused_value 3 k (ap (λ (o : Outcome). o.answer) e))
  by_tests h false false false ea eb e =
      let ok : Summable A = record { some = h; most = ltb-false _ _ ea; small = leb-false _ _ eb } in
      let n = value_inj (length (sums_image A)) k (ap (λ (o : Outcome). o.answer) e) in
      let i : take k x ≡ sums_image A = ap₂ take (sym n) (sym (ap (λ (o : Outcome). o.words) e)) ∙ take-append_seam (sums_image A) (drop (length (sums_image A)) w) in
      subst⁻¹ (Restored A) i (restored A ok)

pub reads_back : ReadsBack
unfolding from_slice_of slice_test
reads_back [] w k x e =
    let n : 0 ≡ k = value_inj 0 k (ap (λ (o : Outcome). o.answer) e) in
    subst (λ (j : ℕ). Restored [] (take j x)) n none_held
reads_back (a ∷ A) w k x e =
    by_tests (a ∷ A) w k x (omega arith) (ltb 16777216 (length (a ∷ A))) (leb (2 ^ 64 - 1) (sum (a ∷ A))) (ltb (length w) (length (sums_image (a ∷ A)))) refl refl
    (sym (ap (λ (b : Bool). cond b (leaves (value 0) w) (passing (slice_test (a ∷ A) (length w)) w (wrote (a ∷ A) w k x))) (ne_eqb (length (a ∷ A)) 0 (λ (z : length (a ∷ A) ≡ 0). omega arith))) ∙ e)
