-- Reading out: the words that are written grow by a value at each step, and are those of the definition in the end. Assumes nothing.
use mathlib.Core.Path.{◌≡◌, refl, sym, ap, ap₂, ◌∙◌}
use mathlib.Core.List.{List, [], ◌∷◌, ◌++◌}
use mathlib.Core.Bool.{Bool, true, false, cond}
use Prim.Native.Nat.{ℕ, zero, suc, ◌+◌, ◌-◌, ◌≤◌, ◌<◌, min}
use native.Mathlib.Nat.{le_of_lt, add-zero}
use native.Mathlib.Numerals.{add-one}
use native.Mathlib.Omega.{arith}
use lib.ListN.{length, get_or, take, drop, set, length-take, length-drop, length-set}
use lib.Seq.{length-take-le, take-suc, drop-cons, append_snoc, set_at, get_or-drop}
use Rattle.errors.specs.Answer.{value, refused, leaves}
use Rattle.elias_fano.specs.declared.image.Parts.{Parts}
use Rattle.elias_fano.specs.Accept.{times, accepted, parts_of, parts, unopened, open_of}
use Rattle.elias_fano.specs.Ask.{ReadFrom, ask, read_out, filled, read_from_of}
use Rattle.elias_fano.proofs.Answers as answers
use Rattle.elias_fano.proofs.Selecting as selecting
use Rattle.elias_fano_walk.specs.declared.walk.Walk.{Walk}
use Rattle.elias_fano_walk.specs.Walking.{WalkOver}

-- ---- lists

-- the first j words of d are those of S; one more is written
pub one_more : (S d : List ℕ) (j : ℕ) → j < length S → j < length d → set (take j S ++ drop j d) j (get_or S j 0) ≡ take (suc j) S ++ drop (suc j) d
one_more S d j hs hd =
    ap (λ (r : List ℕ). set (take j S ++ r) j (get_or S j 0)) (drop-cons d j 0 hd)
    ∙ set_at (take j S) (get_or d j 0) (drop (suc j) d) (get_or S j 0) j (length-take-le j S (le_of_lt hs))
    ∙ sym (append_snoc (take j S) (get_or S j 0) (drop (suc j) d))
    ∙ ap (λ (r : List ℕ). r ++ drop (suc j) d) (sym (take-suc S j 0 hs))

take_taken : (n : ℕ) (S : List ℕ) → take (length (take n S)) S ≡ take n S
take_taken zero S = refl
take_taken (suc n) [] = refl
take_taken (suc n) (x ∷ S) = ap (λ (r : List ℕ). x ∷ r) (take_taken n S)

-- ---- the loop

-- d were the words, of which j are written, from the number k on
pub record Written (i : List ℕ) (p : Parts) (k count : ℕ) (d out : List ℕ) (w : Walk) (j : ℕ) : Type 0 where
  pub upto : j ≤ count
  pub walking : WalkOver i p w
  pub number : w.number ≡ k + j
  pub words : out ≡ take j (drop k (times i)) ++ drop j d
  pub long : length out ≡ length d

module _ (i : List ℕ) (p : Parts) (d : List ℕ) where
  pub none_written : (count : ℕ) (w : Walk) → WalkOver i p w → Written i p w.number count d d w 0
  none_written count w h = record { upto = omega arith; walking = h; number = sym (add-zero w.number); words = refl; long = refl }

  module _ (ok : accepted i ≡ true) (ep : p ≡ parts_of i) (k count : ℕ) (m : count ≤ p.num_pushed - k) (room : count ≤ length d) (out : List ℕ) (w : Walk) (j : ℕ) (s : Written i p k count d out w j) (l : j < count) where
    pub one_left : w.number < p.num_pushed
    one_left = let e = s.number in omega arith

    pub one_written : (v : ℕ) (w' : Walk) → WalkOver i p w' → w'.number ≡ suc w.number → v ≡ get_or (times i) w.number 0 → Written i p k count d (set out j v) w' (j + 1)
    one_written v w' h n e =
        let T : List ℕ = times i in
        let c : j < length (drop k T) = let a = length-drop k T in let b = selecting.pushed_is i ok p ep in omega arith in
        let x : v ≡ get_or (drop k T) j 0 = e ∙ ap (λ (q : ℕ). get_or T q 0) s.number ∙ sym (get_or-drop k T j 0) in
        record {
          upto = omega arith;
          walking = h;
          number = let a = s.number in omega arith;
          words = ap₂ (λ (r : List ℕ) (y : ℕ). set r j y) s.words x ∙ one_more (drop k T) d j c (omega arith) ∙ ap (λ (q : ℕ). take q (drop k T) ++ drop q d) (sym (add-one j));
          long = length-set out j v ∙ s.long;
        }

  pub all_written : (k count : ℕ) (out : List ℕ) (w : Walk) (j : ℕ) → Written i p k count d out w j → count ≤ j → out ≡ take count (drop k (times i)) ++ drop count d
  all_written k count out w j s l =
      let e : j ≡ count = let a = s.upto in omega arith in
      s.words ∙ ap (λ (q : ℕ). take q (drop k (times i)) ++ drop q d) e

-- ---- the answer

module _ (T : List ℕ) (k count : ℕ) (d : List ℕ) (e : count ≡ min (length d) (length T - k)) where
  pub many_of_lem : count ≡ length (read_out T k (length d))
  many_of_lem = e ∙ sym (length-take (length d) (drop k T) ∙ ap (min (length d)) (length-drop k T))

  pub fills_of : (out : List ℕ) → out ≡ take count (drop k T) ++ drop count d → out ≡ filled T k d
  unfolding filled
  fills_of out x =
      let S : List ℕ = drop k T in
      x ∙ ap (λ (y : ℕ). take y S ++ drop y d) many_of_lem
      ∙ ap (λ (y : List ℕ). y ++ drop (length (take (length d) S)) d) (take_taken (length d) S)

module _ (i : List ℕ) (ok : accepted i ≡ true) (p : Parts) (ep : p ≡ parts_of i) (k count : ℕ) (d : List ℕ) (e : count ≡ min (length d) (p.num_pushed - k)) where
  by_times : count ≡ min (length d) (length (times i) - k)
  by_times = e ∙ ap (λ (y : ℕ). min (length d) (y - k)) (selecting.pushed_is i ok p ep)

  pub many : count ≡ length (read_out (times i) k (length d))
  many = many_of_lem (times i) k count d by_times

  pub fills : (n : ℕ) (out : List ℕ) → n ≡ k → out ≡ take count (drop n (times i)) ++ drop count d → out ≡ filled (times i) k d
  fills n out en x = fills_of (times i) k count d by_times out (x ∙ ap (λ (y : ℕ). take count (drop y (times i)) ++ drop count d) en)

module _ (i : List ℕ) (k : ℕ) (d : List ℕ) where
  pub read_opened : accepted i ≡ true → (r : ℕ) (out : List ℕ) → r ≡ length (read_out (times i) k (length d)) → out ≡ filled (times i) k d → leaves (value r) out ≡ read_from_of i k d
  unfolding read_from_of ask
  read_opened h r out e x =
      ap₂ leaves (answers.query_opened i (value r) (ReadFrom k (length d)) h (ap value e)) (x ∙ sym (ap (λ (b : Bool). cond b (filled (times i) k d) d) h))

  refused_not : (b : Bool) (n : ℕ) (q : Parts) → unopened n ≡ cond b (parts q) (unopened 7) → b ≡ false
  refused_not true n q e = let z : ◌≡◌ {A = ℕ} 0 1 = cc in absurd (omega arith)
  refused_not false n q e = refl

  pub read_refused : (x : ℕ) → unopened x ≡ open_of i → leaves (refused x) d ≡ read_from_of i k d
  unfolding read_from_of open_of
  read_refused x e =
      ap₂ leaves (answers.query_refused i x (ReadFrom k (length d)) e)
      (sym (ap (λ (b : Bool). cond b (filled (times i) k d) d) (refused_not (accepted i) x (parts_of i) e)))
