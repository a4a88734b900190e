-- What is claimed of spans side by side: of which span each word is, what the counts and the shortest gap are, and that the image of a list is compared as the list. Assumes nothing.
use mathlib.Core.Path.{◌≡◌, refl, ap, ◌∙◌, subst}
use mathlib.Core.List.{List, [], ◌∷◌, ◌++◌}
use mathlib.Core.Bool.{Bool, true, cond}
use Prim.Native.Nat.{ℕ, zero, suc, ◌+◌, ◌-◌, ◌*◌, ◌≤◌, ◌<◌, min}
use native.Mathlib.Nat.{le_trans, lt_of_lt_of_le, lt_of_not-le}
use native.Mathlib.Decide.{dec_lt}
use native.Mathlib.Omega.{arith}
use lib.ListN.{length, get_or, take, drop}
use Rattle.errors.specs.Answer.{refused, leaves}
use Rattle.elias_fano_words.specs.Image.{image}
use Rattle.elias_fano.specs.Accept.{fit, times}
use Rattle.elias_fano.proofs.Images as images
use Rattle.winters.specs.Winters.{in_span, gaps_from, gaps, least_from, least, summary_of, words_of, span_words, compare_answer, compare_of, Claims}
use Rattle.winters.proofs.Spans as spans

-- ---- the words of each span

each : (T ss : List ℕ) (j : ℕ) → suc j < length ss → take 4 (drop (4 * j) (span_words T ss)) ≡ words_of (summary_of (in_span (get_or ss j 0) (get_or ss (suc j) 0) T))
unfolding span_words
each T [] j h = absurd (omega arith)
each T (s ∷ []) j h = absurd (omega arith)
each T (s ∷ e ∷ ss) zero h = refl
each T (s ∷ e ∷ ss) (suc j) h =
    let n : 4 * suc j ≡ suc (suc (suc (suc (4 * j)))) = omega arith in
    ap (λ (k : ℕ). take 4 (drop k (words_of (summary_of (in_span s e T)) ++ span_words T (e ∷ ss)))) n ∙ each T (e ∷ ss) j (omega arith)

-- ---- two spans that meet

adds : (s m e : ℕ) (T : List ℕ) → s ≤ m → m ≤ e → length (in_span s m T) + length (in_span m e T) ≡ length (in_span s e T)
adds s m e [] h k = omega (arith, ap length (spans.span_nil s m), ap length (spans.span_nil m e), ap length (spans.span_nil s e))
adds s m e (t ∷ T) h k = go (adds s m e T h k) (dec_lt t s) (dec_lt t m) (dec_lt t e)
  where
    go : length (in_span s m T) + length (in_span m e T) ≡ length (in_span s e T) → Dec (t < s) → Dec (t < m) → Dec (t < e) → length (in_span s m (t ∷ T)) + length (in_span m e (t ∷ T)) ≡ length (in_span s e (t ∷ T))
    go i (yes a) b d = omega (arith, ap length (spans.span_before s m t T a), ap length (spans.span_before m e t T (lt_of_lt_of_le a h)), ap length (spans.span_before s e t T a))
    go i (no a) (yes b) d =
        let l : s ≤ t = omega (arith, lt_of_not-le a) in
        omega (arith, ap length (spans.span_in s m t T l b), ap length (spans.span_before m e t T b), ap length (spans.span_in s e t T l (lt_of_lt_of_le b k)))
    go i (no a) (no b) (yes d) =
        let l : m ≤ t = omega (arith, lt_of_not-le b) in
        omega (arith, ap length (spans.span_past s m t T l), ap length (spans.span_in m e t T l d), ap length (spans.span_in s e t T (le_trans h l) d))
    go i (no a) (no b) (no d) =
        let l : e ≤ t = omega (arith, lt_of_not-le d) in
        omega (arith, ap length (spans.span_past s m t T (le_trans k l)), ap length (spans.span_past m e t T l), ap length (spans.span_past s e t T l))

no_span : (s e : ℕ) (T : List ℕ) → e ≤ s → words_of (summary_of (in_span s e T)) ≡ 0 ∷ 0 ∷ 0 ∷ 0 ∷ []
unfolding summary_of gaps least
no_span s e T h = ap (λ (r : List ℕ). words_of (summary_of r)) (spans.span_reversed s e T h)

-- ---- the shortest gap

-- the least is at or below where it began, and each number
least-upto : (x : ℕ) (L : List ℕ) → least_from x L ≤ x
unfolding least_from
least-upto x [] = omega arith
least-upto x (y ∷ L) = let a = least-upto (min x y) L in omega arith

least-each : (x : ℕ) (L : List ℕ) (j : ℕ) → j < length L → least_from x L ≤ get_or L j 0
unfolding least_from
least-each x [] j h = absurd (omega arith)
least-each x (y ∷ L) zero h = let a = least-upto (min x y) L in omega arith
least-each x (y ∷ L) (suc j) h = least-each (min x y) L j (omega arith)

-- and it is one of them
least-met : (x : ℕ) (L : List ℕ) → (j : ℕ) × (j < length (x ∷ L)) × (least_from x L ≡ get_or (x ∷ L) j 0)
unfolding least_from
least-met x [] = (0, omega arith, refl)
least-met x (y ∷ L) = go (least-met (min x y) L) (dec_lt x y)
  where
    go : (j : ℕ) × (j < length (min x y ∷ L)) × (least_from (min x y) L ≡ get_or (min x y ∷ L) j 0) → Dec (x < y) → (j : ℕ) × (j < length (x ∷ y ∷ L)) × (least_from (min x y) L ≡ get_or (x ∷ y ∷ L) j 0)
    go (zero, h, e) (yes l) = (0, omega arith, omega (arith, e))
    go (zero, h, e) (no l) = (1, omega arith, omega (arith, e, lt_of_not-le l))
    go (suc j, h, e) d = (suc (suc j), omega arith, e)

length-gaps : (x : ℕ) (T : List ℕ) → length (gaps_from x T) ≡ length T
unfolding gaps_from
length-gaps x [] = refl
length-gaps x (t ∷ T) = ap suc (length-gaps t T)

gap_at : (x : ℕ) (T : List ℕ) (j : ℕ) → j < length T → get_or (gaps_from x T) j 0 ≡ get_or T j 0 - get_or (x ∷ T) j 0
unfolding gaps_from
gap_at x [] j h = absurd (omega arith)
gap_at x (t ∷ T) zero h = refl
gap_at x (t ∷ T) (suc j) h = gap_at t T j (omega arith)

gap_least : (T : List ℕ) (j : ℕ) → suc j < length T → (summary_of T).gap ≤ get_or T (suc j) 0 - get_or T j 0
unfolding summary_of gaps gaps_from least
gap_least [] j h = absurd (omega arith)
gap_least (t ∷ []) j h = absurd (omega arith)
gap_least (t ∷ r ∷ T) zero h = least-upto (r - t) (gaps_from r T)
gap_least (t ∷ r ∷ T) (suc j) h = subst (λ (y : ℕ). least_from (r - t) (gaps_from r T) ≤ y) (gap_at r T j (omega arith)) (least-each (r - t) (gaps_from r T) j (let e = length-gaps r T in omega arith))

gap_met : (T : List ℕ) → 1 < length T → (j : ℕ) × (suc j < length T) × ((summary_of T).gap ≡ get_or T (suc j) 0 - get_or T j 0)
unfolding summary_of gaps gaps_from least
gap_met [] h = absurd (omega arith)
gap_met (t ∷ []) h = absurd (omega arith)
gap_met (t ∷ r ∷ T) h = let m = least-met (r - t) (gaps_from r T) in let l : m.0 < length (r ∷ T) = let e = length-gaps r T in omega (arith, m.1) in (m.0, omega arith, m.2 ∙ gap_at t (r ∷ T) m.0 l)

-- ---- the image of a list

of_list : (u n : ℕ) (c : Bool) (T ss out : List ℕ) → fit u n T ≡ true → compare_of (image u n c T) ss out ≡ compare_answer T ss out
unfolding compare_of
of_list u n c T ss out h =
    let f = images.fits_of_lem u n T h in
    ap (λ (b : Bool). cond b (compare_answer (times (image u n c T)) ss out) (leaves (refused 7) out)) (images.image-accepted u n c T f)
    ∙ ap (λ (l : List ℕ). compare_answer l ss out) (images.image-times u n c T f)

-- ---- all of it

pub claims : Claims
claims = record { each = each; adds = adds; no_span = no_span; gap_least = gap_least; gap_met = gap_met; of_list = of_list }
