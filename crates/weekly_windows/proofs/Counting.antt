-- How many times of a list are in the windows: by the times from one on and to the span's end, by windows in order, and the answers. T is the list of times, i an image. Assumes nothing.
use mathlib.Core.Path.{◌≡◌, refl, sym, ap, ap₂, ◌∙◌, subst}
use mathlib.Core.List.{List, [], ◌∷◌}
use mathlib.Core.Bool.{Bool, true, false, ◌&&◌, and-false}
use Prim.Native.Nat.{ℕ, zero, suc, ◌+◌, ◌%◌, ◌≤◌, ◌<◌, suc-le-suc, zero-le}
use native.Mathlib.Nat.{le_trans, lt_of_not-le}
use native.Mathlib.Decide.{dec_lt}
use native.Mathlib.Omega.{arith}
use borrow.Author.Tests.{lt-ltb, le-ltb, le-leb, lt-leb}
use lib.Dec.{leb, ltb}
use lib.ListN.{length, get_or, drop, length-drop, drop_of_length-le}
use lib.Seq.{drop-nil, drop-cons, get_or-drop}
use Rattle.errors.specs.Answer.{Answer, value, refused}
use Rattle.broadword.specs.Fields.{flag}
use Rattle.broadword.proofs.Truth.{flag_le}
use Rattle.elias_fano_words.specs.Times.{rising}
use Rattle.elias_fano.specs.declared.image.Parts.{Parts}
use Rattle.elias_fano.specs.Accept.{times, accepted, parts_of, unopened, open_of}
use Rattle.elias_fano.proofs.Answers as answers
use Rattle.elias_fano.proofs.Images as images
use Rattle.elias_fano.proofs.Selecting as selecting
use Rattle.elias_fano_walk.specs.declared.walk.Walk.{Walk}
use Rattle.elias_fano_walk.specs.Searching.{FirstFrom}
use Rattle.elias_fano_walk.specs.Walking.{WalkOver}
use Rattle.elias_fano_walk.proofs.Halved.{not_falling}
use Rattle.weekly_windows.specs.Ordering.{joined}
use Rattle.weekly_windows.specs.Windows.{week, between, in_some, are_windows, is_counted, count_in, count_answer, count_of}
use Rattle.weekly_windows.proofs.Joining.{inside_joined}

-- windows that hold the same seconds count the same
count_same : (ws o : List ℕ) → ((r : ℕ) → in_some ws r ≡ in_some o r) → (s e : ℕ) (T : List ℕ) → count_in ws s e T ≡ count_in o s e T
unfolding count_in
count_same ws o h s e [] = refl
count_same ws o h s e (t ∷ T) = ap₂ (λ (b : Bool) (n : ℕ). flag (between s e t && b) + n) (h (t % week)) (count_same ws o h s e T)

module _ (ws : List ℕ) where
  pub counts_before : (s e t : ℕ) → t < s → is_counted ws s e t ≡ false
  counts_before s e t h = simp (lt-leb s t h)

  pub counts_past : (s e t : ℕ) → e ≤ t → is_counted ws s e t ≡ false
  counts_past s e t h = ap (λ (b : Bool). leb s t && b && in_some ws (t % week)) (le-ltb t e h) ∙ ap (λ (b : Bool). b && in_some ws (t % week)) (and-false (leb s t))

  pub counts_in : (s e t : ℕ) → s ≤ t → t < e → is_counted ws s e t ≡ in_some ws (t % week)
  counts_in s e t h k = simp (le-leb s t h, lt-ltb t e k)

  -- no time is below the span's end
  count_none : (s e : ℕ) (T : List ℕ) → ((j : ℕ) → j < length T → e ≤ get_or T j 0) → count_in ws s e T ≡ 0
  unfolding count_in
  count_none s e [] h = refl
  count_none s e (t ∷ T) h = ap₂ (λ (b : Bool) (n : ℕ). flag b + n) (counts_past s e t (h 0 (omega arith))) (count_none s e T (λ j l. h (suc j) (suc-le-suc l)))

  -- no time is below the span's beginning
  count_all : (s e : ℕ) (T : List ℕ) → ((j : ℕ) → j < length T → s ≤ get_or T j 0) → count_in ws s e T ≡ count_in ws 0 e T
  unfolding count_in
  count_all s e [] h = refl
  count_all s e (t ∷ T) h = ap₂ (λ (b : Bool) (n : ℕ). flag (b && ltb t e && in_some ws (t % week)) + n) (le-leb s t (h 0 (omega arith)) ∙ sym (le-leb 0 t zero-le)) (count_all s e T (λ j l. h (suc j) (suc-le-suc l)))

  -- the first k times are below the span's beginning, and no others
  count_from : (s e k : ℕ) (T : List ℕ) → ((j : ℕ) → j < k → get_or T j 0 < s) → ((j : ℕ) → k ≤ j → j < length T → s ≤ get_or T j 0) → count_in ws s e T ≡ count_in ws 0 e (drop k T)
  unfolding count_in
  count_from s e k [] f g = ap (count_in ws 0 e) (sym (drop-nil k))
  count_from s e zero (t ∷ T) f g = count_all s e (t ∷ T) (λ j l. g j zero-le l)
  count_from s e (suc k) (t ∷ T) f g =
      ap (λ (b : Bool). flag b + count_in ws s e T) (counts_before s e t (f 0 (omega arith)))
      ∙ (let z : 0 + count_in ws s e T ≡ count_in ws s e T = omega arith in z)
      ∙ count_from s e k T (λ j l. f (suc j) (suc-le-suc l)) (λ j l m. g (suc j) (suc-le-suc l) (suc-le-suc m))

  -- one time of the span more
  count_next : (e j : ℕ) (T : List ℕ) → j < length T → get_or T j 0 < e → count_in ws 0 e (drop j T) ≡ flag (in_some ws (get_or T j 0 % week)) + count_in ws 0 e (drop (suc j) T)
  unfolding count_in
  count_next e j T h k = ap (count_in ws 0 e) (drop-cons T j 0 h) ∙ ap (λ (b : Bool). flag b + count_in ws 0 e (drop (suc j) T)) (counts_in 0 e (get_or T j 0) zero-le k)

  -- a span that is empty or reversed
  pub count_no_span : (s e : ℕ) (T : List ℕ) → e ≤ s → count_in ws s e T ≡ 0
  unfolding count_in
  count_no_span s e [] h = refl
  count_no_span s e (t ∷ T) h = ap₂ (λ (b : Bool) (n : ℕ). flag b + n) (go (dec_lt t s)) (count_no_span s e T h)
    where
      go : Dec (t < s) → is_counted ws s e t ≡ false
      go (yes l) = counts_before s e t l
      go (no l) = counts_past s e t (omega (arith, lt_of_not-le l))

  -- a list in order, of which the first k times are below the span's beginning
  pub count_span : (u s e k : ℕ) (T : List ℕ) → rising u 0 T ≡ true → FirstFrom T s k → count_in ws s e T ≡ count_in ws 0 e (drop k T)
  count_span u s e k T r f = count_from s e k T f.less (λ j l m. le_trans (f.first (omega arith)) (not_falling u T r k j l m))

-- windows in order count what they counted before
pub count-joined : (ws : List ℕ) (e : ℕ) (T : List ℕ) → count_in (joined [] ws) 0 e T ≡ count_in ws 0 e T
unfolding in_some
count-joined ws e T = count_same (joined [] ws) ws (λ r. inside_joined [] ws r) 0 e T

-- ---- the loop

-- `count` of the times from the number k on and before the walk are counted
pub record CountsOn (i : List ℕ) (p : Parts) (ws : List ℕ) (e k : ℕ) (w : Walk) (count : ℕ) : Type 0 where
  pub walking : WalkOver i p w
  pub few : count ≤ w.number
  pub same : count + count_in ws 0 e (drop w.number (times i)) ≡ count_in ws 0 e (drop k (times i))

module _ (i : List ℕ) (ok : accepted i ≡ true) (p : Parts) (ep : p ≡ parts_of i) where
  many : p.num_pushed ≡ length (times i)
  many = selecting.pushed_is i ok p ep

  module _ (ws : List ℕ) (e : ℕ) where
    module _ (k : ℕ) (w : Walk) (count : ℕ) (s : CountsOn i p ws e k w count) where
      -- no time is left
      none_left : count_in ws 0 e (drop w.number (times i)) ≡ 0 → count ≡ count_in ws 0 e (drop k (times i))
      none_left h = let q = s.same in omega arith

      pub counts_end : p.num_pushed ≤ w.number → count ≡ count_in ws 0 e (drop k (times i))
      unfolding count_in
      counts_end h = none_left (ap (count_in ws 0 e) (drop_of_length-le (times i) {i = w.number} (omega (arith, many))))

      module _ (l : w.number < p.num_pushed) (x : ℕ) (ex : x ≡ get_or (times i) w.number 0) where
        -- the next time is not below the span's end, and no later one is
        pub counts_stop : e ≤ x → count ≡ count_in ws 0 e (drop k (times i))
        counts_stop h = none_left (count_none ws 0 e (drop w.number (times i)) (λ j m. subst (λ (y : ℕ). e ≤ y) (sym (get_or-drop w.number (times i) j 0)) (le_trans (subst (λ (y : ℕ). e ≤ y) ex h) (later j m))))
          where
            later : (j : ℕ) → j < length (drop w.number (times i)) → get_or (times i) w.number 0 ≤ get_or (times i) (w.number + j) 0
            later j m = not_falling _ (times i) (images.is_fit i ok).rises w.number (w.number + j) (omega arith) (let q = length-drop w.number (times i) in omega arith)

        pub counts_more : x < e → (t : ℕ) → t ≡ flag (in_some ws (x % week)) → (w' : Walk) → WalkOver i p w' → w'.number ≡ suc w.number → CountsOn i p ws e k w' (count + t)
        counts_more h t et w' g n =
            let q = s.same in
            let y = count_next ws e w.number (times i) (omega (arith, many)) (subst (λ (z : ℕ). z < e) ex h) in
            let z : t ≡ flag (in_some ws (get_or (times i) w.number 0 % week)) = et ∙ ap (λ (v : ℕ). flag (in_some ws (v % week))) ex in
            let d = ap (λ (v : ℕ). count_in ws 0 e (drop v (times i))) n in
            record {
              walking = g;
              few = let f = s.few in let b = flag_le (in_some ws (x % week)) in omega arith;
              same = omega arith;
            }

-- ---- the answers

module _ (T ws : List ℕ) (s e : ℕ) where
  pub answer_refused : are_windows ws ≡ false → refused 17 ≡ count_answer T ws s e
  unfolding count_answer
  answer_refused h = sym (simp h)

  pub answer_is : are_windows ws ≡ true → (n : ℕ) → n ≡ count_in ws s e T → value n ≡ count_answer T ws s e
  unfolding count_answer
  answer_is h n q = sym (simp h (ap value (sym q)))

module _ (i ws : List ℕ) (s e : ℕ) where
  pub count_opened : accepted i ≡ true → (a : Answer) → a ≡ count_answer (times i) ws s e → a ≡ count_of i ws s e
  unfolding count_of
  count_opened h a q = q ∙ sym (simp h)

  pub count_refused : (x : ℕ) → unopened x ≡ open_of i → refused x ≡ count_of i ws s e
  unfolding count_of
  count_refused x q = let d = answers.not_open i x q in ap refused d.1 ∙ sym (simp d.0)
