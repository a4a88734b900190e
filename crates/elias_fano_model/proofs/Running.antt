-- A run as its loop makes it, one call after the other, is what the model says: by the theorem on whole lists. Assumes nothing.
use Rattle.std.specs.Prelude.{Ok, Err, Result}
use mathlib.Core.Path.{◌≡◌, refl, sym, ap, ap₂, ◌∙◌}
use mathlib.Core.List.{List, [], ◌∷◌}
use mathlib.Core.Bool.{Bool, true, false, cond}
use Prim.Native.Nat.{ℕ, suc, ◌+◌, ◌-◌, ◌*◌, ◌/◌, ◌^◌, ◌≤◌, ◌<◌}
use native.Mathlib.Nat.{add-zero}
use native.Mathlib.Numerals.{add-one, add-two}
use native.Mathlib.Omega.{arith}
use borrow.Author.Tests.{le-ltb, lt-ltb, le-leb, lt-leb, eq-eqb, ne_eqb, ltb-true, ltb-false, eqb-true, eqb-false}
use lib.Dec.{eqb, ltb}
use lib.ListN.{length, get_or, drop, set, length-drop, length-set}
use lib.Seq.{sets, drop-cons}
use Rattle.errors.specs.Answer.{Answer, done, refused}
use Rattle.errors.specs.Refusal.{number_of}
use Rattle.errors.specs.declared.Refusal.{Refusal}
use Rattle.elias_fano_words.specs.Sizes.{start_len}
use Rattle.elias_fano.specs.declared.builder.Builder.{Builder}
use Rattle.elias_fano.specs.Made.{Made, made, nobody, of_pushed}
use Rattle.elias_fano.specs.Steps.{new_of, push_of, build_of}
use Rattle.elias_fano.proofs.Cases as cases
use Rattle.elias_fano_model.specs.Model.{Call, book}
use Rattle.elias_fano_model.specs.Demand3.{step_of, closes, run_from, run, end_from, Words, Begun}
use Rattle.elias_fano_model.specs.Run.{call_of, decode, kind_of, value_of, codes, Left, left, ended, unbegun, left_by, run_of}
use Rattle.elias_fano_model.specs.Going.{filed_at, go_on, went_on}
use Rattle.elias_fano_model.proofs.Book.{every}

-- ---- a call by its words

pub call_push : (k a : ℕ) (b : Builder) (w : List ℕ) → k ≡ 0 → push_of b a w ≡ step_of b w (call_of k a)
unfolding call_of step_of
call_push k a b w h = sym (simp (eq-eqb k 0 h))

pub call_build : (k a : ℕ) (b : Builder) (w : List ℕ) → (k ≡ 0 → ⊥) → build_of b (eqb a 1) w ≡ step_of b w (call_of k a)
unfolding call_of step_of
call_build k a b w h = sym (simp (ne_eqb k 0 h))

-- ---- the answers

pub length-filed : (l : List ℕ) (k : ℕ) (a : Answer) → length (filed_at l k a) ≡ length l
unfolding filed_at
length-filed l k a = length-set (set l (2 * k) (kind_of a)) (2 * k + 1) (value_of a) ∙ length-set l (2 * k) (kind_of a)

-- ---- the loop's turn

decode_none : (l : List ℕ) → length l < 2 → decode l ≡ []
unfolding decode
decode_none [] h = refl
decode_none (x ∷ []) h = refl
decode_none (x ∷ y ∷ r) h = absurd (omega arith)

next_call : (l : List ℕ) (i : ℕ) → 2 ≤ length l - i → decode (drop i l) ≡ call_of (get_or l i 0) (get_or l (i + 1) 0) ∷ decode (drop (i + 2) l)
unfolding decode
next_call l i h =
    let p : i < length l = omega arith in
    let q : suc i < length l = omega arith in
    ap decode (drop-cons l i 0 p ∙ ap (λ (r : List ℕ). get_or l i 0 ∷ r) (drop-cons l (suc i) 0 q)) ∙ rw (add-one i, add-two i)

-- what is left of the run once a call has left s
abbrev then_on : ℕ → List ℕ → List Call → Made → Left
then_on k answers xs s =
    cond (closes s.answer) (left (ended s.builder (k + 1)) s.words (filed_at answers k s.answer)) (go_on s.builder s.words (k + 1) (filed_at answers k s.answer) xs)

module _ (b c : Builder) (w v : List ℕ) (k : ℕ) (a : Answer) (answers l : List ℕ) (i : ℕ) (more : 2 ≤ length l - i) (e : made a c v ≡ step_of b w (call_of (get_or l i 0) (get_or l (i + 1) 0))) where
  turn : go_on b w k answers (decode (drop i l)) ≡ then_on k answers (decode (drop (i + 2) l)) (made a c v)
  unfolding go_on
  turn = ap (go_on b w k answers) (next_call l i more) ∙ ap (then_on k answers (decode (drop (i + 2) l))) (sym e)

  pub turn_last : closes a ≡ true → left (ended c (k + 1)) v (filed_at answers k a) ≡ go_on b w k answers (decode (drop i l))
  turn_last h = sym (turn ∙ ap (λ (t : Bool). cond t (left (ended c (k + 1)) v (filed_at answers k a)) (go_on c v (k + 1) (filed_at answers k a) (decode (drop (i + 2) l)))) h)

  pub turn_on : closes a ≡ false → go_on c v (k + 1) (filed_at answers k a) (decode (drop (i + 2) l)) ≡ go_on b w k answers (decode (drop i l))
  turn_on h = sym (turn ∙ ap (λ (t : Bool). cond t (left (ended c (k + 1)) v (filed_at answers k a)) (go_on c v (k + 1) (filed_at answers k a) (decode (drop (i + 2) l)))) h)

pub turn_none : (b : Builder) (w : List ℕ) (k : ℕ) (answers l : List ℕ) (i : ℕ) → length l - i < 2 → left (ended b k) w answers ≡ go_on b w k answers (decode (drop i l))
unfolding go_on
turn_none b w k answers l i h = sym (ap (go_on b w k answers) (decode_none (drop i l) (simp length-drop h)))

-- ---- the whole run

abbrev left_from : Made → ℕ → List ℕ → List Made → Left
left_from m k answers ss = left (ended (end_from m ss).builder (k + length ss)) (end_from m ss).words (sets answers (2 * k) (codes ss))

filed_sets : (answers : List ℕ) (k : ℕ) (s : Made) (ss : List Made) → sets (filed_at answers k s.answer) (2 * (k + 1)) (codes ss) ≡ sets answers (2 * k) (codes (s ∷ ss))
unfolding filed_at codes
filed_sets answers k s ss =
    let p : 2 * k + 1 ≡ suc (2 * k) = add-one (2 * k) in
    let q : 2 * (k + 1) ≡ suc (suc (2 * k)) = omega arith in
    ap₂ (λ (i j : ℕ). sets (set (set answers (2 * k) (kind_of s.answer)) i (value_of s.answer)) j (codes ss)) p q

first_step : (m s : Made) (k : ℕ) (answers : List ℕ) (ss : List Made) → left_from s (k + 1) (filed_at answers k s.answer) ss ≡ left_from m k answers (s ∷ ss)
first_step m s k answers ss =
    let p : k + 1 + length ss ≡ k + suc (length ss) = omega arith in
    ap₂ (λ (n : ℕ) (r : List ℕ). left (ended (end_from s ss).builder n) (end_from s ss).words r) p (filed_sets answers k s ss)

no_more : (m : Made) (k : ℕ) (answers : List ℕ) → left (ended m.builder k) m.words answers ≡ left_from m k answers []
unfolding codes
no_more m k answers = ap (λ (n : ℕ). left (ended m.builder n) m.words answers) (sym (add-zero k))

trace_by : (m s : Made) (k : ℕ) (answers : List ℕ) (xs : List Call)
    → go_on s.builder s.words (k + 1) (filed_at answers k s.answer) xs ≡ left_from s (k + 1) (filed_at answers k s.answer) (run_from s.builder s.words xs)
    → (t : Bool)
    → cond t (left (ended s.builder (k + 1)) s.words (filed_at answers k s.answer)) (go_on s.builder s.words (k + 1) (filed_at answers k s.answer) xs)
    ≡ left_from m k answers (s ∷ cond t [] (run_from s.builder s.words xs))
trace_by m s k answers xs ih true = no_more s (k + 1) (filed_at answers k s.answer) ∙ first_step m s k answers []
trace_by m s k answers xs ih false = ih ∙ first_step m s k answers (run_from s.builder s.words xs)

trace : (m : Made) (k : ℕ) (answers : List ℕ) (xs : List Call) → go_on m.builder m.words k answers xs ≡ left_from m k answers (run_from m.builder m.words xs)
unfolding go_on run_from
trace m k answers [] = no_more m k answers
trace m k answers (x ∷ xs) =
    let s = step_of m.builder m.words x in
    trace_by m s k answers xs (trace s (k + 1) (filed_at answers k s.answer) xs) (closes s.answer)

-- all by the model
by_model : (u n : ℕ) (calls lent answers : List ℕ) → Begun u n lent → (b : Builder) (w : List ℕ) → made done b w ≡ new_of u n lent → went_on b w answers calls ≡ left_by answers (book u n lent (decode calls))
unfolding run
by_model u n calls lent answers begun b w e =
    let s = new_of u n lent in
    let xs = decode calls in
    let f : filed_at answers 0 done ≡ filed_at answers 0 s.answer = ap (λ (m : Made). filed_at answers 0 m.answer) e in
    ap₂ (λ (m : Made) (r : List ℕ). go_on m.builder m.words 1 r xs) e f
    ∙ trace s 1 (filed_at answers 0 s.answer) xs
    ∙ first_step s s 0 answers (run_from s.builder s.words xs)
    ∙ ap₂ (λ (n : ℕ) (r : List ℕ). left (ended (end_from s (run_from s.builder s.words xs)).builder n) (end_from s (run_from s.builder s.words xs)).words r) (let d : (y : ℕ) → 0 + suc y ≡ suc y = λ y. omega arith in d (length (run_from s.builder s.words xs))) refl
    ∙ ap (left_by answers) (every u n lent begun xs)

-- ---- the cases of a run

done_not : (k : ℕ) → done ≡ refused k → ⊥
done_not k e = let z : ◌≡◌ {A = ℕ} 0 1 = cc in omega arith

refused_not : (k : ℕ) → refused k ≡ done → ⊥
refused_not k e = let z : ◌≡◌ {A = ℕ} 0 1 = cc in omega arith

refused_inj : (j k : ℕ) → refused j ≡ refused k → j ≡ k
refused_inj j k e = cc

module _ (u n : ℕ) (calls lent answers : List ℕ) where
  pub no_places : length answers / 2 ≤ length calls / 2 → left (unbegun 3) lent answers ≡ run_of u n calls lent answers
  unfolding run_of
  no_places h = sym (simp (le-leb _ _ h))

  module _ (places : length calls / 2 < length answers / 2) where
    run_1 : n ≡ 0 → run_of u n calls lent answers ≡ left (unbegun 1) lent answers
    unfolding run_of
    run_1 h = simp (lt-leb _ _ places, eq-eqb _ _ h)

    run_2 : (n ≡ 0 → ⊥) → 16777216 < n → run_of u n calls lent answers ≡ left (unbegun 2) lent answers
    unfolding run_of
    run_2 h i = simp (lt-leb _ _ places, ne_eqb _ _ h, lt-ltb _ _ i)

    run_3 : (n ≡ 0 → ⊥) → n ≤ 16777216 → length lent < start_len u n → run_of u n calls lent answers ≡ left (unbegun 3) lent answers
    unfolding run_of
    run_3 h i j = simp (lt-leb _ _ places, ne_eqb _ _ h, le-ltb _ _ i, lt-ltb _ _ j)

    run_all : (n ≡ 0 → ⊥) → n ≤ 16777216 → start_len u n ≤ length lent → run_of u n calls lent answers ≡ left_by answers (book u n lent (decode calls))
    unfolding run_of
    run_all h i j = simp (lt-leb _ _ places, ne_eqb _ _ h, le-ltb _ _ i, le-ltb _ _ j)

    answer_of_lem : (a : Answer) (b : Builder) (w : List ℕ) (m : Made) → made a b w ≡ new_of u n lent → new_of u n lent ≡ m → a ≡ m.answer
    answer_of_lem a b w m e d = ap (λ (x : Made). x.answer) (e ∙ d)

    words_of : (a : Answer) (b : Builder) (w : List ℕ) (m : Made) → made a b w ≡ new_of u n lent → new_of u n lent ≡ m → w ≡ m.words
    words_of a b w m e d = ap (λ (x : Made). x.words) (e ∙ d)

    -- the start was accepted
    begun_by : u < 2 ^ 64 → Words lent → (b : Builder) (w : List ℕ) → made done b w ≡ new_of u n lent → (x y z : Bool) → eqb n 0 ≡ x → ltb 16777216 n ≡ y → ltb (length lent) (start_len u n) ≡ z
        → went_on b w answers calls ≡ run_of u n calls lent answers
    begun_by hu hw b w e true y z p q r = absurd (done_not 1 (answer_of_lem done b w (made (refused 1) nobody lent) e (cases.new_refused u n lent 1 (cases.new_1 u n (length lent) (eqb-true _ _ p)))))
    begun_by hu hw b w e false true z p q r = absurd (done_not 2 (answer_of_lem done b w (made (refused 2) nobody lent) e (cases.new_refused u n lent 2 (cases.new_2 u n (length lent) (ltb-true _ _ q)))))
    begun_by hu hw b w e false false true p q r =
        absurd (done_not 3 (answer_of_lem done b w (made (refused 3) nobody lent) e (cases.new_refused u n lent 3 (cases.new_3 u n (length lent) (eqb-false _ _ p) (ltb-false _ _ q) (ltb-true _ _ r)))))
    begun_by hu hw b w e false false false p q r =
        by_model u n calls lent answers (record { a_universe = hu; some = eqb-false _ _ p; most = ltb-false _ _ q; long = ltb-false _ _ r; words = hw }) b w e
        ∙ sym (run_all (eqb-false _ _ p) (ltb-false _ _ q) (ltb-false _ _ r))

    pub begun : u < 2 ^ 64 → Words lent → (p : Result Builder Refusal) (b : Builder) (w : List ℕ) → of_pushed nobody p w ≡ new_of u n lent → p ≡ Ok b
        → went_on b w answers calls ≡ run_of u n calls lent answers
    begun hu hw p b w e q = begun_by hu hw b w (sym (ap (λ (x : Result Builder Refusal). of_pushed nobody x w) q) ∙ e) (eqb n 0) (ltb 16777216 n) (ltb (length lent) (start_len u n)) refl refl refl

    -- or refused
    same : (k j : ℕ) (w : List ℕ) → made (refused k) nobody w ≡ new_of u n lent → new_of u n lent ≡ made (refused j) nobody lent → run_of u n calls lent answers ≡ left (unbegun j) lent answers
        → left (unbegun k) w answers ≡ run_of u n calls lent answers
    same k j w e d r = ap₂ (λ (x : ℕ) (v : List ℕ). left (unbegun x) v answers) (refused_inj k j (answer_of_lem (refused k) nobody w (made (refused j) nobody lent) e d)) (words_of (refused k) nobody w (made (refused j) nobody lent) e d) ∙ sym r

    refused_by_lem : (k : ℕ) (w : List ℕ) → made (refused k) nobody w ≡ new_of u n lent → (x y z : Bool) → eqb n 0 ≡ x → ltb 16777216 n ≡ y → ltb (length lent) (start_len u n) ≡ z
        → left (unbegun k) w answers ≡ run_of u n calls lent answers
    refused_by_lem k w e true y z p q r = same k 1 w e (cases.new_refused u n lent 1 (cases.new_1 u n (length lent) (eqb-true _ _ p))) (run_1 (eqb-true _ _ p))
    refused_by_lem k w e false true z p q r = same k 2 w e (cases.new_refused u n lent 2 (cases.new_2 u n (length lent) (ltb-true _ _ q))) (run_2 (eqb-false _ _ p) (ltb-true _ _ q))
    refused_by_lem k w e false false true p q r =
        same k 3 w e (cases.new_refused u n lent 3 (cases.new_3 u n (length lent) (eqb-false _ _ p) (ltb-false _ _ q) (ltb-true _ _ r))) (run_3 (eqb-false _ _ p) (ltb-false _ _ q) (ltb-true _ _ r))
    refused_by_lem k w e false false false p q r =
        absurd (refused_not k (answer_of_lem (refused k) nobody w _ e (cases.new_done u n lent (cases.new_passed u n (length lent) (eqb-false _ _ p) (ltb-false _ _ q) (ltb-false _ _ r)))))

    pub refuses : (p : Result Builder Refusal) (k : Refusal) (w : List ℕ) → of_pushed nobody p w ≡ new_of u n lent → p ≡ Err k → left (unbegun (number_of k)) w answers ≡ run_of u n calls lent answers
    refuses p k w e q = refused_by_lem (number_of k) w (sym (ap (λ (x : Result Builder Refusal). of_pushed nobody x w) q) ∙ e) (eqb n 0) (ltb 16777216 n) (ltb (length lent) (start_len u n)) refl refl refl
