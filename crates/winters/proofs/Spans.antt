-- The times of a span: one after the other, and those from the first on that is not below the span's beginning. T is a list of times. Assumes nothing.
use mathlib.Core.Path.{◌≡◌, refl, sym, ap, ◌∙◌}
use mathlib.Core.List.{List, [], ◌∷◌}
use mathlib.Core.Bool.{Bool, true, false, ◌&&◌, cond, and-false}
use Prim.Native.Nat.{ℕ, zero, suc, ◌≤◌, ◌<◌, suc-le-suc, zero-le}
use native.Mathlib.Nat.{le_trans, lt_of_not-le}
use native.Mathlib.Decide.{dec_lt}
use native.Mathlib.Omega.{arith}
use borrow.Author.Tests.{ltb-true, lt-ltb, le-ltb, le-leb, lt-leb}
use lib.Dec.{leb, ltb}
use lib.ListN.{length, get_or, drop}
use lib.Seq.{drop-nil, drop-cons}
use Rattle.broadword.proofs.Truth.{and_true}
use Rattle.elias_fano_words.specs.Times.{rising}
use Rattle.elias_fano_walk.specs.Searching.{FirstFrom}
use Rattle.elias_fano_walk.proofs.Halved.{not_falling}
use Rattle.winters.specs.Winters.{in_span}

-- ---- one time

module _ (s e t : ℕ) (T : List ℕ) where
  by_test : (b : Bool) → (leb s t && ltb t e) ≡ b → in_span s e (t ∷ T) ≡ cond b (t ∷ in_span s e T) (in_span s e T)
  unfolding in_span
  by_test b h = ap (λ (c : Bool). cond c (t ∷ in_span s e T) (in_span s e T)) h

  pub span_in : s ≤ t → t < e → in_span s e (t ∷ T) ≡ t ∷ in_span s e T
  span_in h k = by_test true (simp (le-leb s t h, lt-ltb t e k))

  pub span_before : t < s → in_span s e (t ∷ T) ≡ in_span s e T
  span_before h = by_test false (simp (lt-leb s t h))

  pub span_past : e ≤ t → in_span s e (t ∷ T) ≡ in_span s e T
  span_past h = by_test false (ap (λ (b : Bool). leb s t && b) (le-ltb t e h) ∙ and-false (leb s t))

pub span_nil : (s e : ℕ) → in_span s e [] ≡ []
unfolding in_span
span_nil s e = refl

-- ---- lists of times

-- no time is below the span's end
pub span_none : (s e : ℕ) (T : List ℕ) → ((j : ℕ) → j < length T → e ≤ get_or T j 0) → in_span s e T ≡ []
span_none s e [] h = span_nil s e
span_none s e (t ∷ T) h = span_past s e t T (h 0 (omega arith)) ∙ span_none s e T (λ j l. h (suc j) (suc-le-suc l))

-- each is below the span's end
pub span_below : (s e : ℕ) (T : List ℕ) (j : ℕ) → j < length (in_span s e T) → get_or (in_span s e T) j 0 < e
unfolding in_span
span_below s e [] j h = absurd (omega arith)
span_below s e (t ∷ T) j h = go (leb s t && ltb t e) refl j h (λ k. span_below s e T k)
  where
    go : (b : Bool) → (leb s t && ltb t e) ≡ b → (j : ℕ) → j < length (cond b (t ∷ in_span s e T) (in_span s e T)) → ((k : ℕ) → k < length (in_span s e T) → get_or (in_span s e T) k 0 < e) → get_or (cond b (t ∷ in_span s e T) (in_span s e T)) j 0 < e
    go false q j h f = f j h
    go true q zero h f = ltb-true t e (and_true (leb s t) (ltb t e) q).1
    go true q (suc j) h f = f j (omega arith)

-- the span is empty or reversed
pub span_reversed : (s e : ℕ) (T : List ℕ) → e ≤ s → in_span s e T ≡ []
span_reversed s e [] h = span_nil s e
span_reversed s e (t ∷ T) h = go (dec_lt t s) ∙ span_reversed s e T h
  where
    go : Dec (t < s) → in_span s e (t ∷ T) ≡ in_span s e T
    go (yes l) = span_before s e t T l
    go (no l) = span_past s e t T (omega (arith, lt_of_not-le l))

-- no time is below the span's beginning
span_all : (s e : ℕ) (T : List ℕ) → ((j : ℕ) → j < length T → s ≤ get_or T j 0) → in_span s e T ≡ in_span 0 e T
unfolding in_span
span_all s e [] h = refl
span_all s e (t ∷ T) h =
    ap (λ (b : Bool). cond (b && ltb t e) (t ∷ in_span s e T) (in_span s e T)) (le-leb s t (h 0 (omega arith)) ∙ sym (le-leb 0 t zero-le))
    ∙ ap (λ (r : List ℕ). cond (leb 0 t && ltb t e) (t ∷ r) r) (span_all s e T (λ j l. h (suc j) (suc-le-suc l)))

-- the first k times are below the span's beginning, and no others
span_from : (s e k : ℕ) (T : List ℕ) → ((j : ℕ) → j < k → get_or T j 0 < s) → ((j : ℕ) → k ≤ j → j < length T → s ≤ get_or T j 0) → in_span s e T ≡ in_span 0 e (drop k T)
span_from s e k [] f g = span_nil s e ∙ sym (ap (in_span 0 e) (drop-nil k) ∙ span_nil 0 e)
span_from s e zero (t ∷ T) f g = span_all s e (t ∷ T) (λ j l. g j zero-le l)
span_from s e (suc k) (t ∷ T) f g =
    span_before s e t T (f 0 (omega arith)) ∙ span_from s e k T (λ j l. f (suc j) (suc-le-suc l)) (λ j l m. g (suc j) (suc-le-suc l) (suc-le-suc m))

-- a list in order, of which the first k times are below the span's beginning
pub span_begins : (u s e k : ℕ) (T : List ℕ) → rising u 0 T ≡ true → FirstFrom T s k → in_span s e T ≡ in_span 0 e (drop k T)
span_begins u s e k T r f = span_from s e k T f.less (λ j l m. le_trans (f.first (omega arith)) (not_falling u T r k j l m))

-- one time of the span more
pub span_next : (e j : ℕ) (T : List ℕ) → j < length T → get_or T j 0 < e → in_span 0 e (drop j T) ≡ get_or T j 0 ∷ in_span 0 e (drop (suc j) T)
span_next e j T h k = ap (in_span 0 e) (drop-cons T j 0 h) ∙ span_in 0 e (get_or T j 0) (drop (suc j) T) zero-le k
