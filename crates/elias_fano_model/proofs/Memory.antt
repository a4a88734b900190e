-- Memory, whole: the bounds of every image, and over every list of calls that no answer is 3 in as many words as the limit. Assumes nothing.
use mathlib.Core.Path.{◌≡◌, refl, sym, ap, ◌∙◌, subst⁻¹}
use mathlib.Core.List.{List, [], ◌∷◌}
use mathlib.Core.Bool.{Bool, true, false, not, ◌||◌, cond}
use Prim.Native.Nat.{ℕ, ◌^◌, ◌≤◌, ◌<◌}
use native.Mathlib.Decide.{dec_le, ℕ_discrete}
use native.Mathlib.Nat.{lt_of_not-le}
use native.Mathlib.Omega.{arith}
use borrow.Author.Tests.{le-ltb}
use lib.Dec.{eqb, leb, ltb}
use lib.ListN.{length, get_or, take}
use Rattle.errors.specs.Answer.{value, done, refused}
use Rattle.broadword.proofs.Truth.{and_true, true_false}
use Rattle.elias_fano_words.specs.Sizes.{limit}
use Rattle.elias_fano_words.specs.Image.{spilled, high_positions, image}
use Rattle.elias_fano_words.specs.Times.{last_of}
use Rattle.elias_fano_words.proofs.Bounds.{high_le}
use Rattle.elias_fano_words.proofs.Limit.{spilled_most, image_most, if_le}
use Rattle.elias_fano.specs.Accept.{universe, declared, ranked, times, accepted}
use Rattle.elias_fano.specs.Made.{Made, made, nobody}
use Rattle.elias_fano.specs.Steps.{new_of, sound}
use Rattle.elias_fano.proofs.Cases as cases
use Rattle.elias_fano.proofs.Images.{Fits, is_fit, is_image}
use Rattle.elias_fano_model.specs.Model.{Call, push, build, answer_to, after, too_long, open_book, closed_book, book_from, book}
use Rattle.elias_fano_model.specs.Demand3.{step_of, closes, run_from, run, Words, Begun}
use Rattle.elias_fano_model.specs.Memory.{Bounded, finishes_with, NotShort, Memory}
use Rattle.elias_fano_model.proofs.Book.{answer_is, fits_none, after_fits, every, by_the_book}

-- ---- every image

image_bounded : (i : List ℕ) → accepted i ≡ true → Bounded i
unfolding image
image_bounded i h =
    let f = is_fit i h in
    let u = universe i in
    let n = declared i in
    let c = ranked i in
    let T = times i in
    let e : i ≡ image u n c T = is_image i h in
    record {
      high = high_le u n f.small f.some;
      ones = omega (arith, ap (λ (x : List ℕ). get_or x 4 0) e, spilled_most u n true T);
      zeros = omega (arith, ap (λ (x : List ℕ). get_or x 5 0) e, if_le c (spilled (high_positions u n false T)), spilled_most u n false T);
      long = omega (arith, ap length e, image_most u n T f.rises f.few c);
    }

-- ---- answers that are not 3

other_refusal : (k : ℕ) → (k ≡ 3 → ⊥) → refused k ≡ refused 3 → ⊥
other_refusal k h e = h (let d : k ≡ 3 = cc in d)

done_not_short : done ≡ refused 3 → ⊥
done_not_short e = let z : ◌≡◌ {A = ℕ} 0 1 = cc in omega arith

value_not_short : (k : ℕ) → value k ≡ refused 3 → ⊥
value_not_short k e = let z : ◌≡◌ {A = ℕ} 0 1 = cc in omega arith

-- ---- a start that 1 or 2 refuses: every call after it is refused with 7

module _ (w : List ℕ) where
  step_7 : (x : Call) → step_of nobody w x ≡ made (refused 7) nobody w
  unfolding step_of sound
  step_7 (push t) = cases.push_refused nobody t w 7 (cases.builder_7 nobody (length w) _ refl)
  step_7 (build c) = cases.build_refused nobody c w 7 (cases.builder_7 nobody (length w) _ refl)

  run_7 : (xs : List Call) → NotShort (run_from nobody w xs)
  unfolding run_from
  run_7 [] = tt
  run_7 (x ∷ xs) = subst⁻¹ (λ (s : Made). NotShort (s ∷ cond (closes s.answer) [] (run_from s.builder s.words xs))) (step_7 x) (other_refusal 7 (λ e. omega arith), run_7 xs)

refused_start : (u n k : ℕ) (w : List ℕ) (xs : List Call) → (k ≡ 3 → ⊥) → new_of u n w ≡ made (refused k) nobody w → NotShort (run u n w xs)
unfolding run
refused_start u n k w xs h e = subst⁻¹ (λ (s : Made). NotShort (s ∷ run_from s.builder s.words xs)) e (other_refusal k h, run_7 w xs)

-- ---- one that is accepted: the model

module _ (u n : ℕ) (c : Bool) (lent : List ℕ) (begun : Begun u n lent) (enough : limit u n c ≤ length lent) where
  time_not_short : (x y z : Bool) → cond x (refused 4) (cond y (refused 5) (cond z (refused 6) done)) ≡ refused 3 → ⊥
  time_not_short true y z = other_refusal 4 (λ e. omega arith)
  time_not_short false true z = other_refusal 5 (λ e. omega arith)
  time_not_short false false true = other_refusal 6 (λ e. omega arith)
  time_not_short false false false = done_not_short

  reading : (T : List ℕ) (t : ℕ) → answer_to u n lent T t ≡ refused 3 → ⊥
  reading T t e = time_not_short (ltb t (last_of T)) (leb u t) (eqb (length T) n) (sym (answer_is u n lent T t) ∙ e)

  -- the limit with the rank index is enough for either choice
  limit_for : (c d : Bool) → (c || not d) ≡ true → limit u n d ≤ limit u n c
  unfolding limit
  limit_for true true h = omega arith
  limit_for true false h = omega arith
  limit_for false true h = absurd (true_false (sym h))
  limit_for false false h = omega arith

  fits-lent : (T : List ℕ) (d : Bool) → Fits u n T → (c || not d) ≡ true → too_long u n lent d T ≡ false
  unfolding too_long
  fits-lent T d f h = le-ltb (length lent) (length (image u n d T)) (omega (arith, image_most u n T f.rises f.few d, limit_for c d h, enough))

  model_from : (T : List ℕ) (xs : List Call) → Fits u n T → finishes_with c xs ≡ true → NotShort (book_from u n lent T xs)
  unfolding book_from
  model_from T [] f h = tt
  model_from T (push t ∷ xs) f h = (reading T t, model_from (after u n lent T t) xs (after_fits u n lent begun T t f) h)
  model_from T (build d ∷ xs) f h =
      subst⁻¹ (λ (b : Bool). NotShort (cond b (open_book u n lent (refused 3) T ∷ book_from u n lent T xs) (closed_book u n lent d T ∷ [])))
      (fits-lent T d f (and_true (c || not d) (finishes_with c xs) h).0) (value_not_short (length (image u n d T)), tt)

  accepted-start : (xs : List Call) → finishes_with c xs ≡ true → NotShort (run u n lent xs)
  unfolding book
  accepted-start xs h = subst⁻¹ NotShort (every u n lent begun xs) (done_not_short, model_from [] xs (fits_none u n lent begun) h)

-- ---- any start

enough : (u n : ℕ) (c : Bool) (lent : List ℕ) (calls : List Call) → u < 2 ^ 64 → Words lent → limit u n c ≤ length lent → finishes_with c calls ≡ true → NotShort (run u n lent calls)
unfolding limit
enough u n c lent calls hu hw room h = go (ℕ_discrete n 0) (dec_le n 16777216)
  where
    go : Dec (n ≡ 0) → Dec (n ≤ 16777216) → NotShort (run u n lent calls)
    go (yes z) d = refused_start u n 1 lent calls (λ e. omega arith) (cases.new_refused u n lent 1 (cases.new_1 u n (length lent) z))
    go (no z) (no g) = refused_start u n 2 lent calls (λ e. omega arith) (cases.new_refused u n lent 2 (cases.new_2 u n (length lent) (lt_of_not-le g)))
    go (no z) (yes g) = accepted-start u n c lent (record { a_universe = hu; some = z; most = g; long = omega arith; words = hw }) room calls h

-- ---- all of it

pub memory : Memory
memory = record {
  image_bounded = image_bounded;
  run_bounded = λ u n lent calls begun k e. image_bounded (take k _) ((by_the_book u n lent begun calls).finished k e).0;
  enough = enough;
}
