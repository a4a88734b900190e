-- Going on after a power cut, whole: what `resume` takes, the calls after it by the book, and that a cut changes nothing of them. Assumes nothing.
use mathlib.Core.Path.{◌≡◌, refl, sym, ap, ap₂, ◌∙◌, subst, subst⁻¹}
use mathlib.Core.List.{List, [], ◌∷◌, ◌++◌, map, append-nil, append_assoc}
use mathlib.Core.Bool.{Bool, true, false, not, ◌&&◌, cond}
use Prim.Native.Nat.{ℕ, ◌+◌, ◌*◌, ◌^◌, ◌≤◌, ◌<◌}
use native.Mathlib.Omega.{arith}
use lib.ListN.{length, take, drop, replicate, length-append, length-take, take-append-drop}
use lib.Seq.{append_snoc, take_at}
use Rattle.errors.specs.Answer.{Answer, done, refused}
use Rattle.broadword.proofs.Truth.{and_true, true_false}
use Rattle.bit_words.specs.Vector.{words_for}
use Rattle.elias_fano_words.specs.Sizes.{low_len, start_len}
use Rattle.elias_fano_words.specs.Times.{rising, last_of, bit_words}
use Rattle.elias_fano_words.proofs.Rising.{rising_first, last_of_snoc}
use Rattle.elias_fano.specs.declared.builder.Builder.{Builder}
use Rattle.elias_fano.specs.Accept.{accepted}
use Rattle.elias_fano.specs.Made.{Made}
use Rattle.elias_fano.specs.Steps.{new_of, held_times, resume_of}
use Rattle.elias_fano.proofs.Filled as filled
use Rattle.elias_fano.proofs.Filled.{Room}
use Rattle.elias_fano.proofs.Images.{Fits}
use Rattle.elias_fano.proofs.Resuming as held
use Rattle.elias_fano_model.specs.Model.{Call, push, build, answer_to, after, open_words, numbers, too_long, open_book, closed_book, book_from, book, times_from}
use Rattle.elias_fano_model.specs.Demand3.{step_of, closes, run_from, run, end_from, end_of, shown, Words, Begun}
use Rattle.elias_fano_model.specs.Resume.{unclosed, Left, ByTheBookFrom, Unbroken, Resume}
use Rattle.elias_fano_model.proofs.Book.{taken, taken_after, fits_none, after_fits, every, every_from, end_is, shown_from_lem}

-- ---- calls after others

module _ (ys : List Call) where
  -- after what s left
  abbrev next : Made → List Call → List Made
  next s xs = run_from s.builder s.words xs

  on_by : (s t : Made) (xs : List Call) (c : Bool) → closes t.answer ≡ c → unclosed (t ∷ cond c [] (next t xs)) ≡ true
      → (unclosed (next t xs) ≡ true → next t (xs ++ ys) ≡ next t xs ++ next (end_from t (next t xs)) ys)
      → t ∷ cond c [] (next t (xs ++ ys)) ≡ (t ∷ cond c [] (next t xs)) ++ next (end_from s (t ∷ cond c [] (next t xs))) ys
  on_by s t xs true e h ih = absurd (true_false (sym (and_true (not (closes t.answer)) true h).0 ∙ ap not e))
  on_by s t xs false e h ih = ap (λ (r : List Made). t ∷ r) (ih (and_true (not (closes t.answer)) (unclosed (next t xs)) h).1)

  runs_on : (s : Made) (xs : List Call) → unclosed (next s xs) ≡ true → next s (xs ++ ys) ≡ next s xs ++ next (end_from s (next s xs)) ys
  unfolding run_from
  runs_on s [] h = refl
  runs_on s (x ∷ xs) h = let t = step_of s.builder s.words x in on_by s t xs (closes t.answer) refl h (λ g. runs_on t xs g)

-- ---- what an unfinished list leaves

module _ (u n : ℕ) (lent : List ℕ) (begun : Begun u n lent) where
  -- the numbers and the words of T
  record Leaves (T : List ℕ) (s : Made) : Type 0 where
    fits : Fits u n T
    builder_is : s.builder ≡ numbers u n lent T
    words_is : s.words ≡ open_words u n lent T

  leaves_build : (T : List ℕ) (c : Bool) (xs : List Call) (s : Made)
      → (unclosed (book_from u n lent T xs) ≡ true → Leaves (times_from u n lent T xs) (end_from (open_book u n lent (refused 3) T) (book_from u n lent T xs)))
      → (t : Bool) → unclosed (cond t (open_book u n lent (refused 3) T ∷ book_from u n lent T xs) (closed_book u n lent c T ∷ [])) ≡ true
      → Leaves (cond t (times_from u n lent T xs) T) (end_from s (cond t (open_book u n lent (refused 3) T ∷ book_from u n lent T xs) (closed_book u n lent c T ∷ [])))
  leaves_build T c xs s ih true h = ih h
  leaves_build T c xs s ih false h = absurd (true_false (sym h))

  leaves_from : (T : List ℕ) (xs : List Call) (s : Made) → Leaves T s → unclosed (book_from u n lent T xs) ≡ true → Leaves (times_from u n lent T xs) (end_from s (book_from u n lent T xs))
  unfolding book_from times_from
  leaves_from T [] s l h = l
  leaves_from T (push t ∷ xs) s l h =
      let S = after u n lent T t in
      let a = answer_to u n lent T t in
      leaves_from S xs (open_book u n lent a S) (record { fits = after_fits u n lent begun T t l.fits; builder_is = refl; words_is = refl }) (and_true (not (closes a)) (unclosed (book_from u n lent S xs)) h).1
  leaves_from T (build c ∷ xs) s l h =
      leaves_build T c xs s (λ g. leaves_from T xs (open_book u n lent (refused 3) T) (record { fits = l.fits; builder_is = refl; words_is = refl }) g) (too_long u n lent c T) h

  module _ (xs : List Call) (h : unclosed (run u n lent xs) ≡ true) where
    unclosed_book : unclosed (book_from u n lent [] xs) ≡ true
    unfolding book
    unclosed_book = sym (ap unclosed (every u n lent begun xs)) ∙ h

    leaves : Leaves (times_from u n lent [] xs) (end_of u n lent xs)
    leaves = subst⁻¹ (Leaves (times_from u n lent [] xs)) (end_is u n lent begun xs) (leaves_from [] xs (open_book u n lent done []) (record { fits = fits_none u n lent begun; builder_is = refl; words_is = refl }) unclosed_book)

-- ---- a list by its pushes

module _ (u n : ℕ) (lent : List ℕ) where
  record Filed (S T : List ℕ) : Type 0 where
    unfinished : unclosed (book_from u n lent S (map push T)) ≡ true
    times_are : times_from u n lent S (map push T) ≡ S ++ T

  filed : (S T : List ℕ) → rising u (last_of S) T ≡ true → length S + length T ≤ n → Filed S T
  unfolding book_from times_from
  filed S [] p q = record { unfinished = refl; times_are = sym (append-nil S) }
  filed S (t ∷ T) p q =
      let f = rising_first u (last_of S) t T p in
      let d = taken u n lent S t f.0 f.1 (omega arith) in
      let a = taken_after u n lent S t d in
      let g = filed (S ++ (t ∷ [])) T (subst (λ (x : ℕ). rising u x T ≡ true) (sym (last_of_snoc S t)) f.2) (let l = length-append S (t ∷ []) in omega arith) in
      record {
        unfinished = ap₂ (λ (x : Answer) (R : List ℕ). not (closes x) && unclosed (book_from u n lent R (map push T))) d a ∙ g.unfinished;
        times_are = ap (λ (R : List ℕ). times_from u n lent R (map push T)) a ∙ g.times_are ∙ append_snoc S t T;
      }

-- ---- the words of the start, before any others

room : (u n : ℕ) (lent : List ℕ) → Begun u n lent → Room u n lent
room u n lent b = record { small = b.a_universe; some = b.some; most = b.most; long = b.long; words = b.words }

module _ (u n : ℕ) (lent : List ℕ) (begun : Begun u n lent) (w : List ℕ) (words : Words w) (T : List ℕ) (f : Fits u n T) (e : take (start_len u n) w ≡ take (start_len u n) (open_words u n lent T)) where
  abbrev bits : List ℕ
  bits = replicate 6 0 ++ bit_words u n (words_for (n * low_len u n)) T

  length_bits : length bits ≡ start_len u n
  length_bits =
      length-append (replicate 6 0) (bit_words u n (words_for (n * low_len u n)) T)
      ∙ ap (λ (k : ℕ). 6 + k) (filled.length_bits u n lent (room u n lent begun) T)
      ∙ sym (filled.start_is u n lent (room u n lent begun))

  start_bits : take (start_len u n) w ≡ bits
  unfolding open_words
  start_bits =
      e
      ∙ ap (take (start_len u n)) (sym (append_assoc (replicate 6 0) (bit_words u n (words_for (n * low_len u n)) T) (drop (start_len u n) lent)))
      ∙ take_at bits (drop (start_len u n) lent) (start_len u n) length_bits

  long : start_len u n ≤ length w
  long = omega (arith, length-take (start_len u n) w, ap length start_bits, length_bits)

  here : Begun u n w
  here = record { a_universe = begun.a_universe; some = begun.some; most = begun.most; long = long; words = words }

  same-words : w ≡ open_words u n w T
  unfolding open_words
  same-words =
      sym (take-append-drop (start_len u n) w)
      ∙ ap (λ (l : List ℕ). l ++ drop (start_len u n) w) start_bits
      ∙ append_assoc (replicate 6 0) (bit_words u n (words_for (n * low_len u n)) T) (drop (start_len u n) w)

  is_taken : ((resume_of (numbers u n lent T) w).answer ≡ done) × (held_times (numbers u n lent T) w ≡ T)
  unfolding open_words
  is_taken = (held.resumes_held u n w (room u n w here) T f same-words, held.holds_held u n w (room u n w here) T f same-words)

-- ---- what was taken

module _ (b : Builder) (w : List ℕ) (small : b.universe < 2 ^ 64) (words : Words w) (h : (resume_of b w).answer ≡ done) where
  abbrev u : ℕ
  u = b.universe

  abbrev n : ℕ
  n = b.num_vals

  abbrev T : List ℕ
  T = held_times b w

  begun : Begun u n w
  begun =
      let k = held.known b w h in
      record { a_universe = small; some = λ (e : n ≡ 0). omega (arith, k.some, e); most = k.most; long = held.long b w h; words = words }

  fits : Fits u n T
  fits = held.held_fits b w h small

  by_numbers : b ≡ numbers u n w T
  by_numbers = held.held_numbers b w h

  by_words : w ≡ open_words u n w T
  unfolding open_words
  by_words = held.held_open b w h

  every_call : (calls : List Call) → run_from b w calls ≡ book_from u n w T calls
  every_call calls = ap₂ (λ (x : Builder) (l : List ℕ). run_from x l calls) by_numbers by_words ∙ every_from u n w begun T calls fits

  by_the_book : (calls : List Call) → ByTheBookFrom b w calls
  by_the_book calls = record {
    every_call = every_call calls;
    finished = λ k e. subst⁻¹
        (λ (r : List Made). (accepted (take k (end_from (resume_of b w) r).words) ≡ true) × (shown (take k (end_from (resume_of b w) r).words) ≡ times_from u n w T calls))
        (every_call calls)
        (shown_from_lem u n w begun T calls k fits (resume_of b w) (ap closes h) (sym (ap (λ (r : List Made). (end_from (resume_of b w) r).answer) (every_call calls)) ∙ e));
  }

  -- its times, one after the other, leave it
  left : Left b w
  unfolding run book
  left =
      let f = filed u n w [] T fits.rises (omega (arith, fits.few)) in
      let xs = map push T in
      let going : unclosed (run u n w xs) ≡ true = ap unclosed (every u n w begun xs) ∙ f.unfinished in
      let l = leaves u n w begun xs going in
      record {
        u = u;
        n = n;
        lent = w;
        calls = xs;
        begun = begun;
        unfinished = going;
        builder_left = l.builder_is ∙ ap (numbers u n w) f.times_are ∙ sym by_numbers;
        words_left = ap (take (start_len u n)) (l.words_is ∙ ap (open_words u n w) f.times_are ∙ sym by_words);
      }

-- ---- all of it

unbroken : (u n : ℕ) (lent : List ℕ) (calls : List Call) → Begun u n lent → unclosed (run u n lent calls) ≡ true → Unbroken u n lent calls
unfolding run end_of
unbroken u n lent calls begun h =
    let l = leaves u n lent begun calls h in
    let T = times_from u n lent [] calls in
    let N = new_of u n lent in
    record {
      taken = λ w words e. subst⁻¹ (λ (b : Builder). ((resume_of b w).answer ≡ done) × (held_times b w ≡ T)) l.builder_is
          (is_taken u n lent begun w words T l.fits (e ∙ ap (take (start_len u n)) l.words_is));
      same_run = λ later. ap (λ (r : List Made). N ∷ r) (runs_on later N calls (and_true (not (closes N.answer)) (unclosed (run_from N.builder N.words calls)) h).1);
    }

taken_left : (b : Builder) (w : List ℕ) → Words w → Left b w → (resume_of b w).answer ≡ done
taken_left b w words l =
    subst (λ (x : Builder). (resume_of x w).answer ≡ done) l.builder_left
    ((unbroken l.u l.n l.lent l.calls l.begun l.unfinished).taken w words (sym l.words_left)).0

pub resume : Resume
resume = record {
  exactly = λ b w small words. (left b w small words, taken_left b w words);
  goes_on = λ b w calls small words h. by_the_book b w small words h calls;
  unbroken = unbroken;
}
