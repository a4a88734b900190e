-- The words of spans: four are written at each step, and they are those of the definition in the end; and what a whole call leaves. T is a list of times, ss the seconds. Assumes nothing.
use mathlib.Core.Path.{◌≡◌, refl, sym, ap, ap₂, ◌∙◌}
use mathlib.Core.List.{List, [], ◌∷◌, ◌++◌, append_assoc, append-nil}
use mathlib.Core.Bool.{Bool, true, cond}
use Prim.Native.Nat.{ℕ, ◌+◌, ◌-◌, ◌*◌, ◌/◌, ◌≤◌, ◌<◌}
use native.Mathlib.Numerals.{add-one}
use native.Mathlib.Omega.{arith}
use borrow.Author.Tests.{le-leb, lt-leb}
use lib.ListN.{length, get_or, take, drop, length-append, length-drop, take-append-drop}
use lib.Seq.{length-take-le, drop-cons, drop-drop, take_at, drop_at}
use Rattle.errors.specs.Answer.{value, refused, Outcome, leaves}
use Rattle.elias_fano.specs.Accept.{times, accepted, unopened, open_of}
use Rattle.elias_fano.proofs.Answers as answers
use Rattle.winters.specs.declared.Summary.{Summary}
use Rattle.winters.specs.Winters.{in_span, summary_of, words_of, span_words, compare_answer, compare_of}

-- ---- the words of spans

module _ (T : List ℕ) where
  -- fewer than two seconds cut no span
  no_words : (ss : List ℕ) → length ss ≤ 1 → span_words T ss ≡ []
  unfolding span_words
  no_words [] h = refl
  no_words (s ∷ []) h = refl
  no_words (s ∷ e ∷ ss) h = absurd (omega arith)

  -- the words of the span from the n-th second on, and of those after it
  words_next : (ss : List ℕ) (n : ℕ) → n + 1 < length ss → span_words T (drop n ss) ≡ words_of (summary_of (in_span (get_or ss n 0) (get_or ss (n + 1) 0) T)) ++ span_words T (drop (n + 1) ss)
  unfolding span_words
  words_next ss n h =
      let d = drop-cons ss (n + 1) 0 h in
      let a : drop n ss ≡ get_or ss n 0 ∷ drop (n + 1) ss = drop-cons ss n 0 (omega arith) ∙ ap (λ (m : ℕ). get_or ss n 0 ∷ drop m ss) (sym (add-one n)) in
      ap (span_words T) (a ∙ ap (λ (r : List ℕ). get_or ss n 0 ∷ r) d)
      ∙ ap (λ (r : List ℕ). words_of (summary_of (in_span (get_or ss n 0) (get_or ss (n + 1) 0) T)) ++ span_words T r) (sym d)

-- ---- the loop

-- d were the words, in which those of n spans are written
pub record Compared (T ss d out : List ℕ) (n : ℕ) : Type 0 where
  pub upto : n ≤ length ss - 1
  pub before : take (4 * n) out ++ span_words T (drop n ss) ≡ span_words T ss
  pub after : drop (4 * n) out ≡ drop (4 * n) d
  pub long : length out ≡ length d

module _ (T ss d : List ℕ) where
  module _ (count : ℕ) (many : count ≡ length ss - 1) (room : 4 * count ≤ length d) (out : List ℕ) (n : ℕ) (g : Compared T ss d out n) where
    pub one-fits : n < count → 4 * n + 4 ≤ length out
    one-fits l = let e = g.long in omega arith

    pub one_compared : n < count → (r : Summary) → r ≡ summary_of (in_span (get_or ss n 0) (get_or ss (n + 1) 0) T) → (w : List ℕ) → w ≡ take (4 * n) out ++ words_of r ++ drop (4 * n + 4) out → Compared T ss d w (n + 1)
    one_compared l r er w ew =
        let A : List ℕ = take (4 * n) out ++ words_of r in
        let B : List ℕ = drop (4 * n + 4) out in
        let f : 4 * n + 4 ≤ length out = one-fits l in
        let la : length A ≡ 4 * (n + 1) = length-append (take (4 * n) out) (words_of r) ∙ ap (λ (m : ℕ). m + 4) (length-take-le (4 * n) out (omega arith)) ∙ (let e : 4 * n + 4 ≡ 4 * (n + 1) = omega arith in e) in
        record {
          upto = omega arith;
          before =
              ap (λ (y : List ℕ). y ++ span_words T (drop (n + 1) ss)) (ap (take (4 * (n + 1))) ew ∙ take_at A B (4 * (n + 1)) la)
              ∙ append_assoc (take (4 * n) out) (words_of r) (span_words T (drop (n + 1) ss))
              ∙ ap (λ (y : List ℕ). take (4 * n) out ++ y) (ap (λ (y : Summary). words_of y ++ span_words T (drop (n + 1) ss)) er ∙ sym (words_next T ss n (omega arith)))
              ∙ g.before;
          after =
              ap (drop (4 * (n + 1))) ew ∙ drop_at A B (4 * (n + 1)) la
              ∙ sym (drop-drop 4 (4 * n) out) ∙ ap (drop 4) g.after ∙ drop-drop 4 (4 * n) d
              ∙ ap (λ (m : ℕ). drop m d) (let e : 4 * n + 4 ≡ 4 * (n + 1) = omega arith in e);
          long = let a = length-append A B in let b = length-drop (4 * n + 4) out in let e = g.long in ap length ew ∙ (let z : length (A ++ B) ≡ length d = omega arith in z);
        }

    pub all_compared : count ≤ n → out ≡ span_words T ss ++ drop (4 * count) d
    all_compared l =
        let e : n ≡ count = let u = g.upto in omega arith in
        let z : span_words T (drop n ss) ≡ [] = no_words T (drop n ss) (let a = length-drop n ss in omega arith) in
        sym (take-append-drop (4 * n) out)
        ∙ ap₂ (λ (x y : List ℕ). x ++ y) (sym (ap (λ (y : List ℕ). take (4 * n) out ++ y) z ∙ append-nil (take (4 * n) out)) ∙ g.before) g.after
        ∙ ap (λ (m : ℕ). span_words T ss ++ drop (4 * m) d) e

-- ---- a whole call

module _ (T ss d : List ℕ) where
  pub answer_short : (n : ℕ) → n ≡ length ss - 1 → length d / 4 < n → leaves (refused 3) d ≡ compare_answer T ss d
  unfolding compare_answer
  answer_short n e h = sym (simp (lt-leb (4 * (length ss - 1)) (length d) (omega arith)))

  pub answer_is : (n : ℕ) → n ≡ length ss - 1 → n ≤ length d / 4 → (w : List ℕ) → w ≡ span_words T ss ++ drop (4 * n) d → leaves (value n) w ≡ compare_answer T ss d
  unfolding compare_answer
  answer_is n e h w q =
      ap (leaves (value n)) q ∙ ap (λ (m : ℕ). leaves (value m) (span_words T ss ++ drop (4 * m) d)) e
      ∙ sym (ap (λ (b : Bool). cond b (leaves (value (length ss - 1)) (span_words T ss ++ drop (4 * (length ss - 1)) d)) (leaves (refused 3) d)) (le-leb (4 * (length ss - 1)) (length d) (omega arith)))

module _ (i ss d : List ℕ) where
  pub compare_opened : accepted i ≡ true → (o : Outcome) → o ≡ compare_answer (times i) ss d → o ≡ compare_of i ss d
  unfolding compare_of
  compare_opened h o q = q ∙ sym (simp h)

  pub compare_refused : (x : ℕ) → unopened x ≡ open_of i → leaves (refused x) d ≡ compare_of i ss d
  unfolding compare_of
  compare_refused x q = let e = answers.not_open i x q in ap (λ (k : ℕ). leaves (refused k) d) e.1 ∙ sym (simp e.0)
