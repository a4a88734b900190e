-- Going on with what was stored: the tests case by case, what they find, and that they find it of the words that a start and readings leave. Assumes nothing.
use mathlib.Core.Path.{◌≡◌, refl, sym, ap, ap₂, ◌∙◌}
use mathlib.Core.List.{List, [], ◌∷◌, ◌++◌}
use mathlib.Core.Bool.{Bool, true, false, not, ◌&&◌, cond}
use Prim.Native.Nat.{ℕ, zero, suc, ◌+◌, ◌-◌, ◌*◌, ◌^◌, ◌≤◌, ◌<◌}
use native.Mathlib.Omega.{arith}
use borrow.Author.Tests.{eqb-true, ltb-false}
use lib.Dec.{eqb, ltb}
use lib.ListN.{length, get_or, take, drop, replicate, take-append-drop}
use lib.Seq.{drop-drop, length-take-le}
use Rattle.std.specs.Prelude.{◌↔◌, All}
use Rattle.std.specs.Bool.{one_answer}
use Rattle.errors.specs.Answer.{Answer, done, refused}
use Rattle.broadword.proofs.Truth.{and_true}
use Rattle.bit_words.specs.Vector.{words_for}
use Rattle.elias_fano_words.specs.Sizes.{low_len, start_len}
use Rattle.elias_fano_words.specs.Times.{last_of, bit_words, holds}
use Rattle.elias_fano_words.specs.declared.sizes.Sizes.{Sizes}
use Rattle.elias_fano.specs.declared.builder.Builder.{Builder}
use Rattle.elias_fano.specs.Made.{made, builder}
use Rattle.elias_fano.specs.Finishing.{Holding}
use Rattle.elias_fano.specs.Steps.{sound, builder_test, held_words, held_times, intact, zeros, unfinished, resume_test, resume_of}
use Rattle.elias_fano.specs.Testing.{Roomy}
use Rattle.elias_fano.proofs.Cases as cases
use Rattle.elias_fano.proofs.Filled as filled
use Rattle.elias_fano.proofs.Filled.{Room}
use Rattle.elias_fano.proofs.Finished as finished
use Rattle.elias_fano.proofs.Images.{Fits}
use Rattle.elias_fano.proofs.Testing as testing

-- ---- words that are all 0

zero_at : (l : List ℕ) (k d : ℕ) → zeros l ≡ true → k < length l → eqb (get_or l k d) 0 ≡ true
unfolding zeros
zero_at [] k d e i = absurd (omega (arith, i))
zero_at (x ∷ l) zero d e i = (and_true (eqb x 0) (zeros l) e).0
zero_at (x ∷ l) (suc k) d e i = zero_at l k d (and_true (eqb x 0) (zeros l) e).1 (omega (arith, i))

zeros_of : (l : List ℕ) → All (λ x. eqb x 0 ≡ true) l → zeros l ≡ true
unfolding zeros
zeros_of [] h = refl
zeros_of (x ∷ l) h = simp (h 0 0 (omega arith)) (zeros_of l (λ k d i. h (suc k) d (omega arith)))

-- what is true just where all words are 0
pub zeros_tested : (ws : List ℕ) (r : Bool) → ((r ≡ true) ↔ All (λ x. eqb x 0 ≡ true) ws) → r ≡ zeros ws
zeros_tested ws r h = one_answer r (zeros ws) h ((λ e k d i. zero_at ws k d e i), zeros_of ws)

all_zero : (l : List ℕ) → zeros l ≡ true → l ≡ replicate (length l) 0
unfolding zeros
all_zero [] h = refl
all_zero (x ∷ l) h =
    let p = and_true (eqb x 0) (zeros l) h in
    ap₂ (λ (y : ℕ) (r : List ℕ). y ∷ r) (eqb-true x 0 p.0) (all_zero l p.1)

-- ---- the tests, case by case

module _ (b : Builder) (w : List ℕ) where
  pub resume_refused : (k : ℕ) → resume_test b w ≡ refused k → made (refused k) b w ≡ resume_of b w
  unfolding resume_of
  resume_refused k e = ap (λ (a : Answer). made a b w) (sym e)

  pub resume_done : resume_test b w ≡ done → made done b w ≡ resume_of b w
  unfolding resume_of
  resume_done e = ap (λ (a : Answer). made a b w) (sym e)

  module _ (s : Sizes) (y : Roomy b (length w) s) where
    by_words : (t : Bool) → unfinished b w ≡ t → resume_test b w ≡ cond t done (refused 7)
    by_words t e = testing.others b (length w) s y (cond (unfinished b w) done (refused 7)) ∙ ap (λ (x : Bool). cond x done (refused 7)) e

    pub header_set : zeros (take 6 w) ≡ false → made (refused 7) b w ≡ resume_of b w
    unfolding unfinished
    header_set e = resume_refused 7 (by_words false (ap (λ (x : Bool). x && intact b w) e))

    module _ (z : zeros (take 6 w) ≡ true) where
      pub not_intact : intact b w ≡ false → made (refused 7) b w ≡ resume_of b w
      unfolding unfinished
      not_intact e = resume_refused 7 (by_words false (ap (λ (x : Bool). x && intact b w) z ∙ e))

      pub resumes : intact b w ≡ true → made done b w ≡ resume_of b w
      unfolding unfinished
      resumes e = resume_done (by_words true (ap (λ (x : Bool). x && intact b w) z ∙ e))

-- ---- what they find: the words hold a list, and nothing else

refusal_apart : (k : ℕ) → refused k ≡ done → ⊥
refusal_apart k e = let z : ◌≡◌ {A = ℕ} 0 1 = cc in omega arith

all_passed : (x y z : Bool) → cond (not x) (refused 7) (cond y (refused 3) (cond z done (refused 7))) ≡ done → (x ≡ true) × (y ≡ false) × (z ≡ true)
all_passed true false true e = (refl, refl, refl)
all_passed true false false e = absurd (refusal_apart 7 e)
all_passed true true z e = absurd (refusal_apart 3 e)
all_passed false y z e = absurd (refusal_apart 7 e)

module _ (b : Builder) (w : List ℕ) (h : (resume_of b w).answer ≡ done) where
  abbrev u : ℕ
  u = b.universe

  abbrev n : ℕ
  n = b.num_vals

  abbrev T : List ℕ
  T = held_times b w

  passed : (sound b ≡ true) × (ltb (length w) (start_len u n) ≡ false) × (unfinished b w ≡ true)
  unfolding resume_of builder_test
  passed = all_passed (sound b) (ltb (length w) (start_len u n)) (unfinished b w) h

  whole : (zeros (take 6 w) ≡ true) × (intact b w ≡ true)
  unfolding unfinished
  whole = and_true (zeros (take 6 w)) (intact b w) passed.2

  pub long : start_len u n ≤ length w
  long = ltb-false (length w) (start_len u n) passed.1

  holding : Holding b w
  holding = record { is_sound = passed.0; long = long; is_intact = whole.1 }

  pub known : cases.Sound b
  known = cases.is_sound b passed.0

  length_held : length T ≡ b.num_pushed
  unfolding held_times
  length_held = finished.length_T b w holding

  pub held_fits : u < 2 ^ 64 → Fits u n T
  unfolding held_times
  held_fits small = record {
    small = small;
    some = known.some;
    most = known.most;
    few = finished.few_T b w holding;
    rises = finished.rises b w holding;
  }

  last_held : last_of T ≡ b.last
  unfolding intact
  last_held = eqb-true (last_of T) b.last (and_true (holds u n b.num_pushed (held_words b w)) (eqb (last_of T) b.last) whole.1).1

  -- the builder has that list's numbers
  pub held_numbers : b ≡ builder u n (length T) (last_of T)
  held_numbers = sym (ap₂ (builder u n) length_held last_held)

  six : 6 ≤ length w
  unfolding start_len
  six = let l = long in omega arith

  header : take 6 w ≡ replicate 6 0
  header = all_zero (take 6 w) whole.0 ∙ ap (λ (k : ℕ). replicate k 0) (length-take-le 6 w six)

  -- and the words are those of that list
  pub held_open : w ≡ replicate 6 0 ++ (bit_words u n (words_for (n * low_len u n)) T ++ drop (start_len u n) w)
  unfolding start_len held_times
  held_open =
      let k = start_len u n - 6 in
      let z : 6 + k ≡ start_len u n = omega arith in
      let d : drop k (drop 6 w) ≡ drop (start_len u n) w = drop-drop k 6 w ∙ ap (λ (j : ℕ). drop j w) z in
      sym (take-append-drop 6 w)
      ∙ ap₂ (λ (a b : List ℕ). a ++ b) header
      (sym (take-append-drop k (drop 6 w)) ∙ ap₂ (λ (a b : List ℕ). a ++ b) (finished.is_bits b w holding) d)

-- ---- they find it of every list that a record holds

module _ (u n : ℕ) (w : List ℕ) (room : Room u n w) (T : List ℕ) (f : Fits u n T) (e : w ≡ filled.W u n w room T) where
  abbrev B : Builder
  B = builder u n (length T) (last_of T)

  held_whole : unfinished B w ≡ true
  unfolding unfinished zeros
  held_whole =
      ap (λ (x : List ℕ). zeros (take 6 x) && intact B x) e
      ∙ filled.held_intact u n w room T f

  pub resumes_held : (resume_of B w).answer ≡ done
  unfolding resume_of
  resumes_held =
      cases.builder_passed B (length w) (cond (unfinished B w) done (refused 7)) (filled.numbers-sound u n w room T f) room.long
      ∙ ap (λ (x : Bool). cond x done (refused 7)) held_whole

  pub holds_held : held_times B w ≡ T
  holds_held = ap (held_times B) e ∙ filled.held_times_lem u n w room T f
