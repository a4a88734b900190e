-- What each test of a header says of the image. Assumes nothing.
use mathlib.Core.Path.{◌≡◌, refl, sym, ap, ap₂, ◌∙◌}
use mathlib.Core.List.{List}
use mathlib.Core.Bool.{Bool, true, false, cond}
use Prim.Native.Nat.{ℕ, ◌+◌, ◌-◌, ◌^◌, ◌≤◌, ◌<◌}
use native.Mathlib.Omega.{arith}
use borrow.Author.Tests.{leb-true, leb-false, eqb-true, eqb-false}
use lib.Dec.{eqb, leb}
use mir.Syntax.{w64}
use mir.Val.{Fits}
use lib.ListN.{length, get_or}
use Rattle.darray.specs.Pending.{Decides}
use Rattle.darray.proofs.Matching.{it_is, it_is_not}
use Rattle.broadword.proofs.Truth.{true_false}
use Rattle.elias_fano_words.specs.Sizes.{index_len}
use Rattle.elias_fano.specs.declared.image.Parts.{Parts}
use Rattle.elias_fano.specs.Accept.{universe, declared, pushed, ranked, accepted, parts_by, parts_of}
use Rattle.elias_fano.specs.Opening.{high_of, zeros_in, end_in, Counts, Limits, Complete, Headed}
use Rattle.elias_fano.proofs.Accepting.{found}
use Rattle.elias_fano.proofs.Limits as limits

fifth_le : (b : Bool) (k x : ℕ) → (b ≡ false → x ≡ 0) → x ≤ cond b (index_len k x) 0
fifth_le true k x z = omega arith
fifth_le false k x z = let e = z refl in omega arith

-- ---- the limits

module _ (n m c : ℕ) where
  pub no_count : n ≡ 0 → Decides false (Counts n m c)
  no_count h = it_is_not (λ (l : Counts n m c). omega (arith, l.some))

  pub large_count : 16777216 < n → Decides false (Counts n m c)
  large_count h = it_is_not (λ (l : Counts n m c). omega (arith, l.most))

  pub pushed-past : n < m → Decides false (Counts n m c)
  pushed-past h = it_is_not (λ (l : Counts n m c). omega (arith, l.few))

  pub choice : (n ≡ 0 → ⊥) → n ≤ 16777216 → m ≤ n → Decides (leb c 1) (Counts n m c)
  choice some most few = go (leb c 1) refl
    where
      go : (b : Bool) → leb c 1 ≡ b → Decides b (Counts n m c)
      go true e = it_is (record { some = omega (arith, some); most = most; few = few; choice = leb-true c 1 e })
      go false e = it_is_not (λ (l : Counts n m c). omega (arith, leb-false c 1 e, l.choice))

module _ (i : List ℕ) where
  pub short : length i < 6 → Decides false (Limits i)
  short h = it_is_not (λ (l : Limits i). omega (arith, l.six))

  pub other_counts : (Counts (declared i) (pushed i) (get_or i 3 0) → ⊥) → Decides false (Limits i)
  other_counts h = it_is_not (λ (l : Limits i). h l.counts)

  pub long_ones : length i < get_or i 4 0 → Decides false (Limits i)
  long_ones h = it_is_not (λ (l : Limits i). omega (arith, l.ones))

  pub zeros : 6 ≤ length i → Counts (declared i) (pushed i) (get_or i 3 0) → get_or i 4 0 ≤ length i → Decides (leb (get_or i 5 0) (length i)) (Limits i)
  zeros six counts ones = go (leb (get_or i 5 0) (length i)) refl
    where
      go : (b : Bool) → leb (get_or i 5 0) (length i) ≡ b → Decides b (Limits i)
      go true e = it_is (record { six = six; counts = counts; ones = ones; zeros = leb-true _ _ e })
      go false e = it_is_not (λ (l : Limits i). omega (arith, leb-false (get_or i 5 0) (length i) e, l.zeros))

  pub limits_of : accepted i ≡ true → Limits i
  limits_of a =
      let f = (found i a).head in
      let l = f.complete.long in
      let z = fifth_le (ranked i) (high_of i - pushed i) (get_or i 5 0) f.complete.none in
      record {
        six = f.six;
        counts = f.counts;
        ones = omega arith;
        zeros = omega arith;
      }

  -- ---- the parts and the length

  module _ (p : Parts) (z : ℕ) (ep : p ≡ parts_of i) (ez : z ≡ cond p.rank (index_len (p.high_len - p.num_pushed) (get_or i 5 0)) 0) where
    rank_is : p.rank ≡ ranked i
    unfolding parts_by
    rank_is = ap (λ (q : Parts). q.rank) ep

    high_is : p.high_len ≡ high_of i
    unfolding parts_by
    high_is = ap (λ (q : Parts). q.high_len) ep

    pushed_is : p.num_pushed ≡ pushed i
    unfolding parts_by
    pushed_is = ap (λ (q : Parts). q.num_pushed) ep

    zeros_is : p.zeros_at ≡ zeros_in i
    unfolding parts_by
    zeros_is = ap (λ (q : Parts). q.zeros_at) ep

    end_is : p.zeros_at + z ≡ end_in i
    end_is = ap₂ (λ (a b : ℕ). a + b) zeros_is (ez ∙ (λ x. cond (rank_is x) (index_len (high_is x - pushed_is x) (get_or i 5 0)) 0))

    pub other_length : (p.zeros_at + z ≡ length i → ⊥) → Decides false (Complete i)
    other_length h = it_is_not (λ (w : Complete i). h (end_is ∙ sym w.long))

    module _ (e : p.zeros_at + z ≡ length i) where
      pub with_rank : p.rank ≡ true → Decides true (Complete i)
      with_rank r = it_is (record { none = λ f. absurd (true_false (sym r ∙ rank_is ∙ f)); long = sym e ∙ end_is })

      pub without_rank : p.rank ≡ false → Decides (eqb (get_or i 5 0) 0) (Complete i)
      without_rank r = go (eqb (get_or i 5 0) 0) refl
        where
          go : (b : Bool) → eqb (get_or i 5 0) 0 ≡ b → Decides b (Complete i)
          go true d = it_is (record { none = λ _. eqb-true _ _ d; long = sym e ∙ end_is })
          go false d = it_is_not (λ (w : Complete i). eqb-false _ _ d (w.none (sym rank_is ∙ r)))

  pub complete_of : accepted i ≡ true → Complete i
  complete_of a = (found i a).head.complete

  pub heads : Limits i → Complete i → Headed i
  heads g w = record { six = g.six; counts = g.counts; complete = w }

  -- ---- the sizes in range

  module _ (hu : universe i < 2 ^ 64) (g : Limits i) (p : Parts) (ep : p ≡ parts_of i) where
    pub parts_high : p.high_len < 2 ^ 32
    unfolding parts_by
    parts_high = let e : p.high_len ≡ high_of i = ap (λ (q : Parts). q.high_len) ep in let h = limits.high_small (universe i) (declared i) (pushed i) hu g.counts.some g.counts.most g.counts.few in omega arith

    pub parts_pushed : p.num_pushed ≤ p.high_len
    unfolding parts_by
    parts_pushed =
        let e : p.high_len ≡ high_of i = ap (λ (q : Parts). q.high_len) ep in
        let d : p.num_pushed ≡ pushed i = ap (λ (q : Parts). q.num_pushed) ep in
        let h = limits.pushed_le (universe i) (declared i) (pushed i) hu g.counts.some g.counts.most g.counts.few in
        omega arith

    index_small : (b : Bool) (k x : ℕ) → k ≤ 50331649 → cond b (index_len k x) 0 ≤ 100000000 + x
    index_small true k x h = omega arith
    index_small false k x h = omega arith

    pub end_fits : (z : ℕ) → z ≡ cond p.rank (index_len (p.high_len - p.num_pushed) (get_or i 5 0)) 0 → length i < 2 ^ 62 → Fits w64 (p.zeros_at + z)
    unfolding parts_by
    end_fits z ez few = record {
      fits =
          let h4 = g.ones in
          let h5 = g.zeros in
          let e : p.high_len ≡ high_of i = ap (λ (q : Parts). q.high_len) ep in
          let d : p.zeros_at ≡ zeros_in i = ap (λ (q : Parts). q.zeros_at) ep in
          let a = limits.high_small (universe i) (declared i) (pushed i) hu g.counts.some g.counts.most g.counts.few in
          let b = limits.product_small (universe i) (declared i) (pushed i) hu g.counts.some g.counts.most g.counts.few in
          let k = g.counts in
          let x = index_small p.rank (p.high_len - p.num_pushed) (get_or i 5 0) (omega arith) in
          omega arith;
    }
