-- What is claimed of the counts: they add up, the whole week counts every time, and the image of a list counts as the list. Assumes nothing.
use mathlib.Core.Path.{◌≡◌, refl, sym, ap, ap₂, ◌∙◌}
use mathlib.Core.List.{List, [], ◌∷◌}
use mathlib.Core.Bool.{Bool, true, false, cond, and-false}
use Prim.Native.Nat.{ℕ, ◌+◌, ◌-◌, ◌%◌, ◌≤◌, ◌<◌, zero-le}
use native.Mathlib.Nat.{le_trans, lt_of_lt_of_le, lt_of_not-le}
use native.Mathlib.Decide.{dec_le, dec_lt}
use native.Mathlib.Omega.{arith}
use borrow.Author.Tests.{lt-ltb, le-ltb, le-leb}
use lib.Dec.{ltb}
use Rattle.errors.specs.Answer.{value, refused}
use Rattle.broadword.specs.Fields.{flag}
use Rattle.elias_fano_words.specs.Image.{image}
use Rattle.elias_fano.specs.Accept.{fit, times, accepted}
use Rattle.elias_fano.specs.Ask.{below}
use Rattle.elias_fano.proofs.Images as images
use Rattle.elias_fano_queries.proofs.Below.{below_mono}
use Rattle.weekly_windows.specs.Windows.{week, between, in_some, are_windows, is_counted, count_in, count_answer, count_of, Claims}
use Rattle.weekly_windows.proofs.Counting as counting

-- ---- two spans that meet

adds_one : (ws : List ℕ) (s m e t : ℕ) → s ≤ m → m ≤ e → flag (is_counted ws s m t) + flag (is_counted ws m e t) ≡ flag (is_counted ws s e t)
adds_one ws s m e t h k = go (dec_lt t m)
  where
    go : Dec (t < m) → flag (is_counted ws s m t) + flag (is_counted ws m e t) ≡ flag (is_counted ws s e t)
    go (yes l) =
        let a = counting.counts_before ws m e t l in
        let b : is_counted ws s m t ≡ is_counted ws s e t = simp (lt-ltb t m l, lt-ltb t e (lt_of_lt_of_le l k)) in
        omega (arith, ap flag a, ap flag b)
    go (no l) =
        let g : m ≤ t = omega (arith, lt_of_not-le l) in
        let a = counting.counts_past ws s m t g in
        let b : is_counted ws m e t ≡ is_counted ws s e t = simp (le-leb m t g, le-leb s t (le_trans h g)) in
        omega (arith, ap flag a, ap flag b)

adds : (ws : List ℕ) (s m e : ℕ) (T : List ℕ) → s ≤ m → m ≤ e → count_in ws s m T + count_in ws m e T ≡ count_in ws s e T
unfolding count_in
adds ws s m e [] h k = refl
adds ws s m e (t ∷ T) h k = omega (arith, adds_one ws s m e t h k, adds ws s m e T h k)

-- what an answer that is a number says
valued : (a w : Bool) (n x : ℕ) → cond a (cond w (value n) (refused 17)) (refused 7) ≡ value x → (a ≡ true) × (w ≡ true) × (n ≡ x)
valued true true n x e = (refl, refl, cc)
valued true false n x e = let z : ◌≡◌ {A = ℕ} 0 1 = cc in absurd (omega arith)
valued false w n x e = let z : ◌≡◌ {A = ℕ} 0 1 = cc in absurd (omega arith)

answers_add : (i ws : List ℕ) (s m e x y : ℕ) → s ≤ m → m ≤ e → count_of i ws s m ≡ value x → count_of i ws m e ≡ value y → count_of i ws s e ≡ value (x + y)
unfolding count_of count_answer
answers_add i ws s m e x y h k a b =
    let f = valued (accepted i) (are_windows ws) (count_in ws s m (times i)) x a in
    let g = valued (accepted i) (are_windows ws) (count_in ws m e (times i)) y b in
    simp (f.0, f.1) (ap value (sym (adds ws s m e (times i) h k) ∙ ap₂ ◌+◌ f.2 g.2))

-- ---- the whole week

whole : (t : ℕ) → in_some (0 ∷ week ∷ []) (t % week) ≡ true
unfolding in_some
whole t = simp (le-leb 0 (t % week) zero-le, lt-ltb (t % week) week (omega arith))

-- a time below e is in the span or below s
week-one : (s e t : ℕ) → s ≤ e → flag (is_counted (0 ∷ week ∷ []) s e t) + flag (ltb t s) ≡ flag (ltb t e)
week-one s e t h = go (dec_lt t s) (dec_lt t e)
  where
    go : Dec (t < s) → Dec (t < e) → flag (is_counted (0 ∷ week ∷ []) s e t) + flag (ltb t s) ≡ flag (ltb t e)
    go (yes l) d = omega (arith, ap flag (counting.counts_before (0 ∷ week ∷ []) s e t l), ap flag (lt-ltb t s l), ap flag (lt-ltb t e (lt_of_lt_of_le l h)))
    go (no l) (yes g) =
        let k : s ≤ t = omega (arith, lt_of_not-le l) in
        omega (arith, ap flag (counting.counts_in (0 ∷ week ∷ []) s e t k g ∙ whole t), ap flag (le-ltb t s k), ap flag (lt-ltb t e g))
    go (no l) (no g) =
        let k : s ≤ t = omega (arith, lt_of_not-le l) in
        let m : e ≤ t = omega (arith, lt_of_not-le g) in
        omega (arith, ap flag (counting.counts_past (0 ∷ week ∷ []) s e t m), ap flag (le-ltb t s k), ap flag (le-ltb t e m))

week_all : (s e : ℕ) (T : List ℕ) → s ≤ e → count_in (0 ∷ week ∷ []) s e T + below s T ≡ below e T
unfolding count_in below
week_all s e [] h = refl
week_all s e (t ∷ T) h = omega (arith, week-one s e t h, week_all s e T h)

whole_week : (s e : ℕ) (T : List ℕ) → count_in (0 ∷ week ∷ []) s e T ≡ below e T - below s T
whole_week s e T = go (dec_le s e)
  where
    go : Dec (s ≤ e) → count_in (0 ∷ week ∷ []) s e T ≡ below e T - below s T
    go (yes h) = omega (arith, week_all s e T h)
    go (no h) =
        let l : e ≤ s = omega (arith, lt_of_not-le h) in
        omega (arith, counting.count_no_span (0 ∷ week ∷ []) s e T l, below_mono e s T l)

-- ---- the image of a list

of_list : (u n : ℕ) (c : Bool) (T ws : List ℕ) (s e : ℕ) → fit u n T ≡ true → count_of (image u n c T) ws s e ≡ count_answer T ws s e
unfolding count_of
of_list u n c T ws s e h =
    let f = images.fits_of_lem u n T h in
    ap (λ (b : Bool). cond b (count_answer (times (image u n c T)) ws s e) (refused 7)) (images.image-accepted u n c T f)
    ∙ ap (λ (l : List ℕ). count_answer l ws s e) (images.image-times u n c T f)

-- ---- all of it

no_windows : (s e : ℕ) (T : List ℕ) → count_in [] s e T ≡ 0
unfolding count_in in_some
no_windows s e [] = refl
no_windows s e (t ∷ T) = ap₂ (λ (b : Bool) (n : ℕ). flag b + n) (and-false (between s e t)) (no_windows s e T)

pub claims : Claims
claims = record { adds = adds; answers_add = answers_add; whole_week = whole_week; no_span = counting.count_no_span; no_windows = no_windows; of_list = of_list }
