-- Demand 3, whole: its first two sentences, and the theorem that has all of it. Assumes nothing.
use mathlib.Core.Path.{◌≡◌, refl, sym, ap, ap₂, ◌∙◌, subst}
use mathlib.Core.List.{List, [], ◌∷◌, ◌++◌, map, append-nil}
use mathlib.Core.Bool.{Bool, true, false, cond}
use mathlib.Core.Logic.{◌↔◌}
use Prim.Native.Nat.{ℕ, ◌+◌, ◌≤◌}
use native.Mathlib.Omega.{arith}
use borrow.Author.Tests.{le-ltb}
use lib.ListN.{length, take, drop, replicate, length-append, length-replicate}
use lib.Seq.{take-append_seam, append_snoc}
use Rattle.errors.specs.Answer.{Answer, value, done, refused}
use Rattle.elias_fano_words.specs.Sizes.{start_len}
use Rattle.elias_fano_words.specs.Image.{image}
use Rattle.elias_fano_words.specs.Times.{rising, last_of}
use Rattle.elias_fano_words.proofs.Rising.{rising_first, last_of_snoc}
use Rattle.broadword.proofs.Truth.{true_false}
use Rattle.elias_fano.specs.Accept.{universe, declared, ranked, times, accepted, parts_of, parts, unopened, open_of}
use Rattle.elias_fano.specs.Ask.{query, asked as asked_of}
use Rattle.elias_fano.specs.Made.{Made}
use Rattle.elias_fano.specs.declared.image.Parts.{Parts}
use Rattle.elias_fano.specs.Steps.{new_of}
use Rattle.elias_fano.proofs.Filled.{fit-zeros}
use Rattle.elias_fano.proofs.Images.{is_fit, is_image}
use Rattle.elias_fano_model.specs.Model.{Call, push, build, open_words, too_long, open_book, closed_book, book_from, book}
use Rattle.elias_fano_model.specs.Demand3.{run_from, run, end_from, end_of, shown, Begun, Asked, Same, Written, Exactly, Demand3}
use Rattle.elias_fano_model.proofs.Book.{taken, taken_after, end_is, every, by_the_book, whole}
use Rattle.elias_fano_model.proofs.Others.{not_seven}
use Rattle.elias_fano_model.proofs.Shown.{shown-times}

-- ---- what the questions decide

opening_by : (p : Parts) (b : Bool) → (b ≡ true) ↔ (cond b (parts p) (unopened 7) ≡ unopened 7 → ⊥)
opening_by p true = ((λ _ (e : parts p ≡ unopened 7). let z : ◌≡◌ {A = ℕ} 0 1 = cc in omega arith), (λ _. refl))
opening_by p false = ((λ (h : false ≡ true). absurd (true_false (sym h))), (λ h. absurd (h refl)))

question_by : (b : Bool) (a : Answer) → (a ≡ refused 7 → ⊥) → (b ≡ true) ↔ (cond b a (refused 7) ≡ refused 7 → ⊥)
question_by true a f = ((λ _. f), (λ _. refl))
question_by false a f = ((λ (h : false ≡ true). absurd (true_false (sym h))), (λ h. absurd (h refl)))

pub asked : Asked
unfolding open_of query
asked i = record {
  opening = opening_by (parts_of i) (accepted i);
  question = λ q. question_by (accepted i) (asked_of i q) (not_seven (universe i) (declared i) (ranked i) (times i) q);
}

-- ---- equal images

pub same_images : Same
same_images i j h k = (
  (λ e. (ap universe e, ap declared e, ap ranked e, ap shown e)),
  (λ e. is_image i h ∙ (λ x. image (e.0 x) (e.1 x) (e.2 x) ((sym (shown-times i h) ∙ e.3 ∙ shown-times j k) x)) ∙ sym (is_image j k)),
)

-- ---- a run that writes an accepted image

module _ (u n : ℕ) (lent : List ℕ) (c : Bool) where
  abbrev calls : List ℕ → List Call
  calls T = map push T ++ (build c ∷ [])

  abbrev answers : List Made → List Answer
  answers = map (λ (s : Made). s.answer)

  -- what the model shows of such a run
  record Forth (S T : List ℕ) (s : Made) : Type 0 where
    shows : answers (book_from u n lent S (calls T)) ≡ map (λ (t : ℕ). done) T ++ (value (length (image u n c (S ++ T))) ∷ [])
    ends : end_from s (book_from u n lent S (calls T)) ≡ closed_book u n lent c (S ++ T)

  forth : (S T : List ℕ) (s : Made) → rising u (last_of S) T ≡ true → length S + length T ≤ n → length (image u n c (S ++ T)) ≤ length lent → Forth S T s
  unfolding book_from too_long
  forth S [] s p q r =
      let e : S ++ [] ≡ S = append-nil S in
      let r' : length (image u n c S) ≤ length lent = subst (λ (x : List ℕ). length (image u n c x) ≤ length lent) e r in
      let f : book_from u n lent S (build c ∷ []) ≡ closed_book u n lent c (S ++ []) ∷ [] =
      ap (λ (b : Bool). cond b (open_book u n lent (refused 3) S ∷ []) (closed_book u n lent c S ∷ [])) (le-ltb (length lent) (length (image u n c S)) r')
      ∙ ap (λ (x : List ℕ). closed_book u n lent c x ∷ []) (sym e) in
      record { shows = ap answers f; ends = ap (end_from s) f }
  forth S (t ∷ T) s p q r =
      let f = rising_first u (last_of S) t T p in
      let d = taken u n lent S t f.0 f.1 (omega arith) in
      let a = taken_after u n lent S t d in
      let e : (S ++ (t ∷ [])) ++ T ≡ S ++ (t ∷ T) = append_snoc S t T in
      let g = forth (S ++ (t ∷ [])) T (open_book u n lent done (S ++ (t ∷ []))) (subst (λ (x : ℕ). rising u x T ≡ true) (sym (last_of_snoc S t)) f.2) (let l = length-append S (t ∷ []) in omega arith) (subst (λ (x : List ℕ). length (image u n c x) ≤ length lent) (sym e) r) in
      record {
        shows = ap₂ (λ (x : Answer) (S' : List ℕ). x ∷ answers (book_from u n lent S' (calls T))) d a ∙ ap (λ (l : List Answer). done ∷ l) (g.shows ∙ ap (λ (x : List ℕ). map (λ (t : ℕ). done) T ++ (value (length (image u n c x)) ∷ [])) e);
        ends = ap₂ (λ (x : Answer) (S' : List ℕ). end_from (open_book u n lent x S') (book_from u n lent S' (calls T))) d a ∙ g.ends ∙ ap (closed_book u n lent c) e;
      }

-- enough words
room : ℕ → ℕ → List ℕ → List ℕ
room u n i = replicate (start_len u n + length i) 0

room_begun : (i : List ℕ) → accepted i ≡ true → Begun (universe i) (declared i) (room (universe i) (declared i) i)
unfolding room
room_begun i h =
    let f = is_fit i h in
    let l = length-replicate {A = ℕ} (start_len (universe i) (declared i) + length i) 0 in
    record {
      a_universe = f.small;
      some = λ (e : declared i ≡ 0). let s = f.some in omega arith;
      most = f.most;
      long = omega arith;
      words = fit-zeros (start_len (universe i) (declared i) + length i);
    }

length-room : (u n : ℕ) (i : List ℕ) → length i ≤ length (room u n i)
unfolding room
length-room u n i = let l = length-replicate {A = ℕ} (start_len u n + length i) 0 in omega arith

writes : (i : List ℕ) → accepted i ≡ true → Written i
unfolding run book
writes i h =
    let u = universe i in
    let n = declared i in
    let c = ranked i in
    let T = times i in
    let lent = room u n i in
    let xs : List Call = map push T ++ (build c ∷ []) in
    let f = is_fit i h in
    let e : i ≡ image u n c T = is_image i h in
    let b = room_begun i h in
    let g = forth u n lent c [] T (open_book u n lent done []) f.rises (let w = f.few in omega arith) (subst (λ (x : List ℕ). length x ≤ length lent) e (length-room u n i)) in
    record {
      u = u;
      n = n;
      c = c;
      T = T;
      lent = lent;
      that_universe = refl;
      that_count = refl;
      that_choice = refl;
      begun = b;
      all_accepted = ap (map (λ (s : Made). s.answer)) (every u n lent b xs) ∙ ap (λ (l : List Answer). done ∷ l) (g.shows ∙ ap (λ (x : List ℕ). map (λ (t : ℕ). done) T ++ (value (length x) ∷ [])) (sym e));
      writes = ap₂ take (ap length e) (ap (λ (s : Made). s.words) (end_is u n lent b xs ∙ g.ends)) ∙ take-append_seam (image u n c T) (drop (length (image u n c T)) (open_words u n lent T)) ∙ sym e;
    }

-- ---- what a run writes is accepted

last_answer : Answer → List Answer → Answer
last_answer a [] = a
last_answer a (x ∷ xs) = last_answer x xs

last_snoc : (a v : Answer) (l : List Answer) → last_answer a (l ++ (v ∷ [])) ≡ v
unfolding last_answer
last_snoc a v [] = refl
last_snoc a v (x ∷ l) = last_snoc x v l

end_answer : (s : Made) (ss : List Made) → (end_from s ss).answer ≡ last_answer s.answer (map (λ (s : Made). s.answer) ss)
unfolding last_answer
end_answer s [] = refl
end_answer s (x ∷ ss) = end_answer x ss

written : (i : List ℕ) → Written i → accepted i ≡ true
unfolding run end_of last_answer
written i w =
    let xs : List Call = map push w.T ++ (build w.c ∷ []) in
    let N = new_of w.u w.n w.lent in
    let v : (end_of w.u w.n w.lent xs).answer ≡ value (length i) =
    end_answer N (run_from N.builder N.words xs) ∙ ap (last_answer done) w.all_accepted ∙ last_snoc done (value (length i)) (map (λ (t : ℕ). done) w.T) in
    ap accepted (sym w.writes) ∙ ((by_the_book w.u w.n w.lent w.begun xs).finished (length i) v).0

pub exactly : Exactly
exactly i = (writes i, written i)

-- ---- all of it

pub demand3 : Demand3
demand3 = record { asked = asked; same = same_images; exactly = exactly; whole = whole }
