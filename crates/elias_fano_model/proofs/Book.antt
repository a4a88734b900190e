-- The third sentence of demand 3: by induction over the list of calls, the contracts' steps show what the model shows, and the image of an
-- accepted build is accepted and shows the accepted times. Assumes nothing.
use mathlib.Core.Path.{◌≡◌, refl, sym, ap, ap₂, ◌∙◌, subst}
use mathlib.Core.List.{List, [], ◌∷◌, ◌++◌}
use mathlib.Core.Bool.{Bool, true, false, not, ◌&&◌, cond}
use Prim.Native.Nat.{ℕ, suc, ◌*◌, ◌≤◌, ◌<◌, zero-le}
use native.Mathlib.Omega.{arith}
use borrow.Author.Tests.{le-ltb, lt-leb, ne_eqb, ltb-true, ltb-false, leb-true, leb-false, eqb-true, eqb-false}
use lib.Dec.{eqb, leb, ltb}
use lib.ListN.{length, take, drop, length-append}
use lib.Seq.{take-append_seam}
use Rattle.errors.specs.Answer.{Answer, value, done, refused}
use Rattle.bit_words.specs.Vector.{words_for}
use Rattle.elias_fano_words.specs.Sizes.{low_len, start_len}
use Rattle.elias_fano_words.specs.Image.{image}
use Rattle.elias_fano_words.specs.Times.{last_of}
use Rattle.elias_fano_words.proofs.Rising.{last_of_snoc}
use Rattle.broadword.proofs.Truth.{true_false}
use Rattle.elias_fano.specs.declared.builder.Builder.{Builder}
use Rattle.elias_fano.specs.Accept.{accepted}
use Rattle.elias_fano.specs.Made.{Made, made, builder}
use Rattle.elias_fano.specs.Steps.{new_of, sound, time_test, push_test, filed, push_of, intact, image_of, image_test, build_test, build_of}
use Rattle.elias_fano.proofs.Answers.{value_inj}
use Rattle.elias_fano.proofs.Cases as cases
use Rattle.elias_fano.proofs.Filled as filled
use Rattle.elias_fano.proofs.Filled.{Room}
use Rattle.elias_fano.proofs.Images.{Fits, image-times, image-accepted}
use Rattle.elias_fano_model.specs.Model.{Call, push, build, join, answer_to, after, open_words, numbers, too_long, open_book, closed_book, book_from, book, times_from, choice_from}
use Rattle.elias_fano_model.specs.Demand3.{step_of, closes, run_from, run, end_from, end_of, shown, Begun, ByTheBook, Whole}
use Rattle.elias_fano_model.proofs.Shown.{shown-times}

-- "T is not empty and t is below its last"
below_last : (T : List ℕ) (t : ℕ) → (not (eqb (length T) 0) && ltb t (last_of T)) ≡ ltb t (last_of T)
below_last [] t = sym (le-ltb t 0 (zero-le {n = t}))
below_last (x ∷ T) t = simp (ne_eqb (suc (length T)) 0 (λ (e : suc (length T) ≡ 0). omega arith))

module _ (u n : ℕ) (lent : List ℕ) where
  pub answer_is : (T : List ℕ) (t : ℕ) → answer_to u n lent T t ≡ cond (ltb t (last_of T)) (refused 4) (cond (leb u t) (refused 5) (cond (eqb (length T) n) (refused 6) done))
  unfolding answer_to
  answer_is T t = ap (λ (x : Bool). cond x (refused 4) (cond (leb u t) (refused 5) (cond (eqb (length T) n) (refused 6) done))) (below_last T t)

  -- a push is accepted by its three tests
  pub taken : (T : List ℕ) (t : ℕ) → last_of T ≤ t → t < u → length T < n → answer_to u n lent T t ≡ done
  taken T t p q r = answer_is T t ∙ simp (le-ltb _ _ p, lt-leb _ _ q, ne_eqb (length T) n (λ (e : length T ≡ n). omega arith))

  pub taken_after : (T : List ℕ) (t : ℕ) → answer_to u n lent T t ≡ done → after u n lent T t ≡ T ++ (t ∷ [])
  unfolding after
  taken_after T t e = rw e

module _ (u n : ℕ) (lent : List ℕ) (begun : Begun u n lent) where
  abbrev k : ℕ
  k = words_for (n * low_len u n)

  abbrev B : List ℕ → Builder
  B T = numbers u n lent T

  abbrev W : List ℕ → List ℕ
  W T = open_words u n lent T

  room : Room u n lent
  room = record { small = begun.a_universe; some = begun.some; most = begun.most; long = begun.long; words = begun.words }

  pub fits_none : Fits u n []
  fits_none = filled.fits_none u n lent room

  start : new_of u n lent ≡ open_book u n lent done []
  unfolding open_words
  start = cases.new_done u n lent (cases.new_passed u n (length lent) begun.some begun.most begun.long) ∙ ap (made done (builder u n 0 0)) (filled.start-words u n lent room)

  length-words : (T : List ℕ) → length (W T) ≡ length lent
  unfolding open_words
  length-words T = filled.length-words u n lent room T

  -- ---- a push

  numbers-sound : (T : List ℕ) → Fits u n T → sound (B T) ≡ true
  numbers-sound T f = filled.numbers-sound u n lent room T f

  long : (T : List ℕ) → start_len u n ≤ length (W T)
  unfolding open_words
  long T = filled.long u n lent room T

  file : (T : List ℕ) (t : ℕ) → Fits u n T → last_of T ≤ t → t < u → length T < n → filed u n (length T) t (W T) ≡ W (T ++ (t ∷ []))
  unfolding open_words
  file T t f a b c = filled.file u n lent room T t f a b c

  -- only a time is tested
  push_test_lem : (T : List ℕ) (t : ℕ) → Fits u n T → push_test (B T) t (length (W T)) ≡ time_test (B T) t
  push_test_lem T t f = cases.builder_passed (B T) (length (W T)) (time_test (B T) t) (numbers-sound T f) (long T)

  -- the contract's step shows what the model shows, and its list stays in order
  record Pushes (T : List ℕ) (t : ℕ) : Type 0 where
    shows : push_of (B T) t (W T) ≡ open_book u n lent (answer_to u n lent T t) (after u n lent T t)
    fits : Fits u n (after u n lent T t)
    goes_on : closes (answer_to u n lent T t) ≡ false

  pushes : (T : List ℕ) (t : ℕ) (a : Answer) → answer_to u n lent T t ≡ a → closes a ≡ false → push_of (B T) t (W T) ≡ open_book u n lent a (join a T t) → Fits u n (join a T t) → Pushes T t
  unfolding after
  pushes T t a e g s f = record {
    shows = s ∙ sym (ap (λ (x : Answer). open_book u n lent x (join x T t)) e);
    fits = subst (λ (x : Answer). Fits u n (join x T t)) (sym e) f;
    goes_on = ap closes e ∙ g;
  }

  push_by : (T : List ℕ) (t : ℕ) → Fits u n T → (x y z : Bool) → ltb t (last_of T) ≡ x → leb u t ≡ y → eqb (length T) n ≡ z → Pushes T t
  push_by T t f true y z p q r =
      pushes T t (refused 4) (answer_is u n lent T t ∙ simp p) refl (cases.push_refused (B T) t (W T) 4 (push_test_lem T t f ∙ cases.time_4 (B T) t (ltb-true _ _ p))) f
  push_by T t f false true z p q r =
      pushes T t (refused 5) (answer_is u n lent T t ∙ simp (p, q)) refl (cases.push_refused (B T) t (W T) 5 (push_test_lem T t f ∙ cases.time_5 (B T) t (ltb-false _ _ p) (leb-true _ _ q))) f
  push_by T t f false false true p q r =
      pushes T t (refused 6) (answer_is u n lent T t ∙ simp (p, q, r)) refl
      (cases.push_refused (B T) t (W T) 6 (push_test_lem T t f ∙ cases.time_6 (B T) t (ltb-false _ _ p) (leb-false _ _ q) (eqb-true _ _ r))) f
  push_by T t f false false false p q r =
      let a : last_of T ≤ t = ltb-false _ _ p in
      let b : t < u = leb-false _ _ q in
      let ne = eqb-false (length T) n r in
      let c : length T < n = omega (arith, f.few) in
      pushes T t done (answer_is u n lent T t ∙ simp (p, q, r)) refl
      (cases.push_done (B T) t (W T) (push_test_lem T t f ∙ cases.time_passed (B T) t a b ne)
      ∙ ap₂ (made done) (ap₂ (builder u n) (sym (length-append T (t ∷ []))) (sym (last_of_snoc T t))) (file T t f a b c))
      (filled.fits_more u n lent room T t f a b c)

  push_step : (T : List ℕ) (t : ℕ) → Fits u n T → Pushes T t
  push_step T t f = push_by T t f (ltb t (last_of T)) (leb u t) (eqb (length T) n) refl refl refl

  pub after_fits : (T : List ℕ) (t : ℕ) → Fits u n T → Fits u n (after u n lent T t)
  after_fits T t f = (push_step T t f).fits

  -- ---- a build

  module _ (T : List ℕ) (f : Fits u n T) where
    held_intact : intact (B T) (W T) ≡ true
    unfolding open_words
    held_intact = filled.held_intact u n lent room T f

    image_is : (c : Bool) → image_of (B T) c (W T) ≡ image u n c T
    unfolding open_words
    image_is c = filled.image_is u n lent room T f c

    -- only the image's length is tested
    build_test_lem : (c : Bool) → build_test (B T) c (W T) ≡ image_test (B T) c (W T)
    build_test_lem c = cases.builder_passed (B T) (length (W T)) (image_test (B T) c (W T)) (numbers-sound T f) (long T)

    -- the contract's step shows what the model shows
    build_by : (c t : Bool) → ltb (length lent) (length (image u n c T)) ≡ t → build_of (B T) c (W T) ≡ cond t (open_book u n lent (refused 3) T) (closed_book u n lent c T)
    build_by c true e =
        let h : length (W T) < length (image_of (B T) c (W T)) = subst (λ (x : List ℕ). length (W T) < length x) (sym (image_is c)) (subst (λ (y : ℕ). y < length (image u n c T)) (sym (length-words T)) (ltb-true _ _ e)) in
        cases.build_refused (B T) c (W T) 3 (build_test_lem c ∙ cases.image_3 (B T) c (W T) held_intact h)
    build_by c false e =
        let h : length (image_of (B T) c (W T)) ≤ length (W T) = subst (λ (x : List ℕ). length x ≤ length (W T)) (sym (image_is c)) (subst (λ (y : ℕ). length (image u n c T) ≤ y) (sym (length-words T)) (ltb-false _ _ e)) in
        cases.build_done (B T) c (W T) (build_test_lem c ∙ cases.image_passed (B T) c (W T) held_intact h)
        ∙ ap (λ (x : List ℕ). made (value (length x)) (B T) (x ++ drop (length x) (W T))) (image_is c)

  -- ---- every call

  next_push : (T : List ℕ) (t : ℕ) (xs : List Call) → Fits u n T → ((S : List ℕ) → Fits u n S → run_from (B S) (W S) xs ≡ book_from u n lent S xs)
      → run_from (B T) (W T) (push t ∷ xs) ≡ book_from u n lent T (push t ∷ xs)
  unfolding run_from step_of book_from
  next_push T t xs f ih =
      let p = push_step T t f in
      let S = after u n lent T t in
      let rest : Made → List Made = λ s. s ∷ cond (closes s.answer) [] (run_from s.builder s.words xs) in
      ap rest p.shows
      ∙ ap (λ (x : Bool). open_book u n lent (answer_to u n lent T t) S ∷ cond x [] (run_from (B S) (W S) xs)) p.goes_on
      ∙ ap (λ (r : List Made). open_book u n lent (answer_to u n lent T t) S ∷ r) (ih S p.fits)

  next_build : (T : List ℕ) (c : Bool) (xs : List Call) → Fits u n T → run_from (B T) (W T) xs ≡ book_from u n lent T xs → (t : Bool) → too_long u n lent c T ≡ t
      → run_from (B T) (W T) (build c ∷ xs) ≡ book_from u n lent T (build c ∷ xs)
  unfolding run_from step_of book_from too_long
  next_build T c xs f ih true e =
      let rest : Made → List Made = λ s. s ∷ cond (closes s.answer) [] (run_from s.builder s.words xs) in
      ap rest (build_by T f c true e) ∙ ap (λ (r : List Made). open_book u n lent (refused 3) T ∷ r) ih
      ∙ ap (λ (x : Bool). cond x (open_book u n lent (refused 3) T ∷ book_from u n lent T xs) (closed_book u n lent c T ∷ [])) (sym e)
  next_build T c xs f ih false e =
      let rest : Made → List Made = λ s. s ∷ cond (closes s.answer) [] (run_from s.builder s.words xs) in
      ap rest (build_by T f c false e)
      ∙ ap (λ (x : Bool). cond x (open_book u n lent (refused 3) T ∷ book_from u n lent T xs) (closed_book u n lent c T ∷ [])) (sym e)

  pub every_from : (T : List ℕ) (xs : List Call) → Fits u n T → run_from (B T) (W T) xs ≡ book_from u n lent T xs
  unfolding run_from book_from
  every_from T [] f = refl
  every_from T (push t ∷ xs) f = next_push T t xs f (λ S g. every_from S xs g)
  every_from T (build c ∷ xs) f = next_build T c xs f (every_from T xs f) (too_long u n lent c T) refl

  pub begins : (xs : List Call) → run_from (new_of u n lent).builder (new_of u n lent).words xs ≡ book_from u n lent [] xs
  begins xs = ap (λ (s : Made). run_from s.builder s.words xs) start ∙ every_from [] xs fits_none

  pub every : (xs : List Call) → run u n lent xs ≡ book u n lent xs
  unfolding run book
  every xs = ap₂ (λ (s : Made) (r : List Made). s ∷ r) start (begins xs)

  -- ---- an accepted build

  -- the list ends in one
  record Ends (T : List ℕ) (c : Bool) (s : Made) : Type 0 where
    fits : Fits u n T
    is : s ≡ closed_book u n lent c T

  open_goes_on : (a : Answer) (k : ℕ) → closes a ≡ false → a ≡ value k → ⊥
  open_goes_on a k g e = true_false (ap closes (sym e) ∙ g)

  ends_build : (T : List ℕ) (c : Bool) (xs : List Call) (k : ℕ) → Fits u n T
      → ((s : Made) → closes s.answer ≡ false → (end_from s (book_from u n lent T xs)).answer ≡ value k → Ends (times_from u n lent T xs) (choice_from u n lent T xs) (end_from s (book_from u n lent T xs)))
      → (t : Bool) (s : Made) → (end_from s (cond t (open_book u n lent (refused 3) T ∷ book_from u n lent T xs) (closed_book u n lent c T ∷ []))).answer ≡ value k
      → Ends (cond t (times_from u n lent T xs) T) (cond t (choice_from u n lent T xs) c) (end_from s (cond t (open_book u n lent (refused 3) T ∷ book_from u n lent T xs) (closed_book u n lent c T ∷ [])))
  ends_build T c xs k f ih true s e = ih (open_book u n lent (refused 3) T) refl e
  ends_build T c xs k f ih false s e = record { fits = f; is = refl }

  ends_from : (T : List ℕ) (xs : List Call) (k : ℕ) → Fits u n T → (s : Made) → closes s.answer ≡ false → (end_from s (book_from u n lent T xs)).answer ≡ value k
      → Ends (times_from u n lent T xs) (choice_from u n lent T xs) (end_from s (book_from u n lent T xs))
  unfolding book_from times_from choice_from
  ends_from T [] k f s g e = absurd (open_goes_on s.answer k g e)
  ends_from T (push t ∷ xs) k f s g e = let p = push_step T t f in ends_from (after u n lent T t) xs k p.fits (open_book u n lent (answer_to u n lent T t) (after u n lent T t)) p.goes_on e
  ends_from T (build c ∷ xs) k f s g e = ends_build T c xs k f (λ s' g' e'. ends_from T xs k f s' g' e') (too_long u n lent c T) s e

  pub end_is : (xs : List Call) → end_of u n lent xs ≡ end_from (open_book u n lent done []) (book_from u n lent [] xs)
  unfolding end_of
  end_is xs = ap₂ end_from start (begins xs)

  -- its first words are the image of the accepted times
  image_left : (T : List ℕ) (c : Bool) (k : ℕ) (s : Made) → Ends T c s → s.answer ≡ value k → take k s.words ≡ image u n c T
  image_left T c k s e v =
      let I = image u n c T in
      let n₀ : length I ≡ k = value_inj (length I) k (sym (ap (λ (x : Made). x.answer) e.is) ∙ v) in
      ap₂ take (sym n₀) (ap (λ (x : Made). x.words) e.is) ∙ take-append_seam I (drop (length I) (W T))

  -- that image is accepted, and shows them
  shown_left : (T : List ℕ) (c : Bool) (k : ℕ) (s : Made) → Ends T c s → s.answer ≡ value k → (accepted (take k s.words) ≡ true) × (shown (take k s.words) ≡ T)
  shown_left T c k s e v =
      let i : take k s.words ≡ image u n c T = image_left T c k s e v in
      let ok : accepted (image u n c T) ≡ true = image-accepted u n c T e.fits in
      (ap accepted i ∙ ok, ap shown i ∙ shown-times (image u n c T) ok ∙ image-times u n c T e.fits)

  -- of the calls after those that left T
  pub shown_from_lem : (T : List ℕ) (xs : List Call) (k : ℕ) → Fits u n T → (s : Made) → closes s.answer ≡ false → (end_from s (book_from u n lent T xs)).answer ≡ value k
      → (accepted (take k (end_from s (book_from u n lent T xs)).words) ≡ true) × (shown (take k (end_from s (book_from u n lent T xs)).words) ≡ times_from u n lent T xs)
  shown_from_lem T xs k f s g e = shown_left (times_from u n lent T xs) (choice_from u n lent T xs) k (end_from s (book_from u n lent T xs)) (ends_from T xs k f s g e) e

  ends : (xs : List Call) (k : ℕ) → (end_of u n lent xs).answer ≡ value k → Ends (times_from u n lent [] xs) (choice_from u n lent [] xs) (end_of u n lent xs)
  ends xs k e =
      subst (Ends (times_from u n lent [] xs) (choice_from u n lent [] xs)) (sym (end_is xs))
      (ends_from [] xs k fits_none (open_book u n lent done []) refl (sym (ap (λ (x : Made). x.answer) (end_is xs)) ∙ e))

  module _ (xs : List Call) (k : ℕ) (e : (end_of u n lent xs).answer ≡ value k) where
    pub times_fit : Fits u n (times_from u n lent [] xs)
    times_fit = (ends xs k e).fits

    pub written_image : take k (end_of u n lent xs).words ≡ image u n (choice_from u n lent [] xs) (times_from u n lent [] xs)
    written_image = image_left (times_from u n lent [] xs) (choice_from u n lent [] xs) k (end_of u n lent xs) (ends xs k e) e

  pub by_the_book : (xs : List Call) → ByTheBook u n lent xs
  by_the_book xs = record {
    every_call = every xs;
    finished = λ k e. shown_left (times_from u n lent [] xs) (choice_from u n lent [] xs) k (end_of u n lent xs) (ends xs k e) e;
  }

pub whole : Whole
whole u n lent calls b = by_the_book u n lent b calls
