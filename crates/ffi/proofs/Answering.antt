-- Many questions: the words that are written grow by an answer at each step, and are those of the definition in the end. Assumes nothing.
use mathlib.Core.Path.{◌≡◌, refl, sym, ap, ap₂, ◌∙◌}
use mathlib.Core.List.{List, [], ◌∷◌, ◌++◌}
use mathlib.Core.Bool.{Bool, true, false, cond}
use Prim.Native.Nat.{ℕ, suc, ◌+◌, ◌*◌, ◌/◌, ◌≤◌, ◌<◌, min}
use native.Mathlib.Nat.{le_of_lt}
use native.Mathlib.Numerals.{add-one}
use native.Mathlib.Omega.{arith}
use lib.ListN.{length, get_or, take, drop, set, length-append, length-drop}
use lib.Seq.{length-take-le, take-suc, take_at, drop-append-add, drop-drop}
use Rattle.errors.specs.Answer.{Answer, value, refused, leaves, Outcome}
use Rattle.bit_words.proofs.Packed.{set-two}
use Rattle.ffi.specs.declared.EfAnswer.{EfAnswer}
use Rattle.ffi.specs.Answers.{ef_answer}
use Rattle.ffi.specs.Many.{answer_words, both, answered, many_if}

-- ---- one answer

pub two-stored : (l : List ℕ) (j a b : ℕ) → j + 1 < length l → set (set l j a) (j + 1) b ≡ take j l ++ a ∷ b ∷ drop (j + 2) l
two-stored l j a b h =
    let e : j + 1 ≡ suc j = add-one j in
    let d : suc (suc j) ≡ j + 2 = omega arith in
    ap (λ (y : ℕ). set (set l j a) y b) e ∙ set-two l j a b (omega arith) ∙ ap (λ (y : ℕ). take j l ++ a ∷ b ∷ drop y l) d

-- ---- the words of answers

module _ (f : ℕ → Answer) where
  length-answer_words : (xs : List ℕ) → length (answer_words f xs) ≡ 2 * length xs
  unfolding answer_words
  length-answer_words [] = refl
  length-answer_words (x ∷ xs) = let e = length-answer_words xs in omega arith

  answer_words_snoc : (xs : List ℕ) (x : ℕ) (r : List ℕ) → answer_words f (xs ++ x ∷ []) ++ r ≡ answer_words f xs ++ (ef_answer (f x)).kind ∷ (ef_answer (f x)).value ∷ r
  unfolding answer_words
  answer_words_snoc [] x r = refl
  answer_words_snoc (y ∷ xs) x r = ap (λ (z : List ℕ). (ef_answer (f y)).kind ∷ (ef_answer (f y)).value ∷ z) (answer_words_snoc xs x r)

  module _ (xs d : List ℕ) where
    first_answer_words : (n : ℕ) → n ≤ length xs → length (answer_words f (take n xs)) ≡ 2 * n
    first_answer_words n h = length-answer_words (take n xs) ∙ ap (λ (y : ℕ). 2 * y) (length-take-le n xs h)

    answered_long : (n : ℕ) → n ≤ length xs → 2 * n ≤ length d → length (answered f n xs d) ≡ length d
    unfolding answered
    answered_long n h l =
        let a = length-append (answer_words f (take n xs)) (drop (2 * n) d) in
        let b = first_answer_words n h in
        let c = length-drop (2 * n) d in
        omega arith

    one_more : (n : ℕ) → n < length xs
        → take (2 * n) (answered f n xs d) ++ (ef_answer (f (get_or xs n 0))).kind ∷ (ef_answer (f (get_or xs n 0))).value ∷ drop (2 * n + 2) (answered f n xs d) ≡ answered f (n + 1) xs d
    unfolding answered
    one_more n h =
        let A : List ℕ = answer_words f (take n xs) in
        let B : List ℕ = drop (2 * n) d in
        let k : ℕ = (ef_answer (f (get_or xs n 0))).kind in
        let v : ℕ = (ef_answer (f (get_or xs n 0))).value in
        let la : length A ≡ 2 * n = first_answer_words n (le_of_lt h) in
        let past : drop (2 * n + 2) (A ++ B) ≡ drop (2 * (n + 1)) d =
        ap (λ (y : ℕ). drop (y + 2) (A ++ B)) (sym la) ∙ drop-append-add A B 2 ∙ drop-drop 2 (2 * n) d
        ∙ ap (λ (y : ℕ). drop y d) (let e : 2 * n + 2 ≡ 2 * (n + 1) = omega arith in e) in
        ap₂ (λ (y z : List ℕ). y ++ k ∷ v ∷ z) (take_at A B (2 * n) la) past
        ∙ sym (answer_words_snoc (take n xs) (get_or xs n 0) (drop (2 * (n + 1)) d))
        ∙ ap (λ (y : List ℕ). answer_words f y ++ drop (2 * (n + 1)) d) (sym (take-suc xs n 0 h) ∙ ap (λ (y : ℕ). take y xs) (sym (add-one n)))

-- ---- the loop

-- d were the words, in which n arguments are answered
pub record Answered (f : ℕ → Answer) (xs d : List ℕ) (count : ℕ) (out : List ℕ) (n : ℕ) : Type 0 where
  pub upto : n ≤ count
  pub words : out ≡ answered f n xs d
  pub long : length out ≡ length d

module _ (f : ℕ → Answer) (xs d : List ℕ) (count : ℕ) where
  pub none_answered : Answered f xs d count d 0
  unfolding answered answer_words
  none_answered = record { upto = omega arith; words = refl; long = refl }

  module _ (many : count ≤ length xs) (room : 2 * count ≤ length d) (out : List ℕ) (n : ℕ) (s : Answered f xs d count out n) where
    pub one-fits : n < count → 2 * n + 1 < length out
    one-fits l = let e = s.long in omega arith

    pub one-answered : n < count → (a : EfAnswer) → a ≡ ef_answer (f (get_or xs n 0)) → (w : List ℕ) → w ≡ take (2 * n) out ++ a.kind ∷ a.value ∷ drop (2 * n + 2) out → Answered f xs d count w (n + 1)
    one-answered l a ea w ew =
        let e : w ≡ answered f (n + 1) xs d =
        ew ∙ ap₂ (λ (y : List ℕ) (z : EfAnswer). take (2 * n) y ++ z.kind ∷ z.value ∷ drop (2 * n + 2) y) s.words ea ∙ one_more f xs d n (omega arith) in
        record { upto = omega arith; words = e; long = ap length e ∙ answered_long f xs d (n + 1) (omega arith) (omega arith) }

    pub all_answered : count ≤ n → out ≡ answered f count xs d
    all_answered l = s.words ∙ ap (λ (y : ℕ). answered f y xs d) (let u = s.upto in let e : n ≡ count = omega arith in e)

-- ---- a whole call

-- ok says whether the words are what is asked, f answers each argument
module _ (ok : Bool) (f : ℕ → Answer) (xs d : List ℕ) where
  pub many_opened : ok ≡ true → (n : ℕ) (w : List ℕ) → n ≡ min (length xs) (length d / 2) → w ≡ answered f n xs d → leaves (value n) w ≡ many_if ok f xs d
  unfolding many_if both
  many_opened e n w en ew =
      ap (leaves (value n)) ew ∙ ap (λ (y : ℕ). leaves (value y) (answered f y xs d)) en
      ∙ sym (ap (λ (b : Bool). cond b (leaves (value (both xs d)) (answered f (both xs d) xs d)) (leaves (refused 7) d)) e)

  pub many_refused : (k : ℕ) → ok ≡ false → k ≡ 7 → leaves (refused k) d ≡ many_if ok f xs d
  unfolding many_if
  many_refused k e ek =
      ap (λ (y : ℕ). leaves (refused y) d) ek
      ∙ sym (ap (λ (b : Bool). cond b (leaves (value (both xs d)) (answered f (both xs d) xs d)) (leaves (refused 7) d)) e)

  -- and as it is told
  module _ (r : EfAnswer) where
    pub opened_told : (n : ℕ) (w : List ℕ) → ok ≡ true → leaves (value n) w ≡ many_if true f xs d → r ≡ ef_answer (value n) → (r ≡ ef_answer (many_if ok f xs d).answer) × (w ≡ (many_if ok f xs d).words)
    opened_told n w e m h =
        let o : leaves (value n) w ≡ many_if ok f xs d = m ∙ ap (λ (b : Bool). many_if b f xs d) (sym e) in
        (h ∙ ap (λ (x : Outcome). ef_answer x.answer) o, ap (λ (x : Outcome). x.words) o)

    pub refused_told : (k : ℕ) → (ok ≡ false) × (k ≡ 7) → r ≡ ef_answer (refused k) → (r ≡ ef_answer (many_if ok f xs d).answer) × (d ≡ (many_if ok f xs d).words)
    refused_told k e h =
        let o = many_refused k e.0 e.1 in
        (h ∙ ap (λ (x : Outcome). ef_answer x.answer) o, ap (λ (x : Outcome). x.words) o)
