-- Laws of a line that is read from the left. Assumes nothing.
use mathlib.Core.Path.{subst, ◌≡◌, refl, sym, ap, ap₂, ◌∙◌}
use mathlib.Core.Bool.{Bool, true, false}
use mathlib.Core.List.{List, [], ◌∷◌}
use Prim.Native.Nat.{ℕ, zero, suc, ◌+◌, ◌-◌, ◌≤◌, ◌<◌}
use native.Mathlib.Nat.{add-zero}
use native.Mathlib.Numerals.{add-one}
use native.Mathlib.Omega.{arith}
use lib.Dec.{eqb}
use lib.ListN.{length, take, drop, get_or, set, length-drop, drop_of_length-le}
use lib.Seq.{sets, drop-cons, drop-drop, sets-eq, take_at}
use borrow.Author.Tests.{eq-eqb, ne_eqb}
use Rattle.decimal.specs.Decimal.{parse_of}
use Rattle.decimal.specs.declared.ParseError.{ParseError}
use Rattle.std.specs.Result.{result_ok}
use Rattle.std.proofs.lemmas.Option.{none-some}
use Rattle.std.specs.Prelude.{Option, Some, None, Result, Ok, Err, IfSome, MatchOption, unwrap_or, ◌≢◌}
use Rattle.console_text.specs.declared.line.Arguments.{Arguments}
use Rattle.console_text.specs.Line.{up_to, grow, words_in, same_text, place_among, split, fields, numbers_of, numbers_from, if_value, if_at, or_zero, values_of}

-- the byte stands at i, and nowhere before
up_to_at : (t : List ℕ) (b i : ℕ) → i < length t → get_or t i 0 ≡ b → ((k : ℕ) → k < i → get_or t k 0 ≢ b) → up_to b t ≡ i
unfolding up_to
up_to_at [] b i h e f = absurd (omega arith)
up_to_at (x ∷ t) b zero h e f = simp (eq-eqb x b e)
up_to_at (x ∷ t) b (suc i) h e f = simp (ne_eqb x b (f 0 (omega arith))) (ap suc (up_to_at t b i (omega arith) e (λ k j. f (suc k) (omega arith))))

-- it stands nowhere
up_to_end : (t : List ℕ) (b : ℕ) → ((k : ℕ) → k < length t → get_or t k 0 ≢ b) → up_to b t ≡ length t
unfolding up_to
up_to_end [] b f = refl
up_to_end (x ∷ t) b f = simp (ne_eqb x b (f 0 (omega arith))) (ap suc (up_to_end t b (λ k j. f (suc k) (omega arith))))

pub first_found : (t : List ℕ) (b : ℕ) (o : Option ℕ) → MatchOption o ((k : ℕ) → k < length t → get_or t k 0 ≢ b) (λ i. (i < length t) × (get_or t i 0 ≡ b) × ((k : ℕ) → k < i → get_or t k 0 ≢ b)) → unwrap_or o (length t) ≡ up_to b t
first_found t b None h = sym (up_to_end t b h)
first_found t b (Some i) h = sym (up_to_at t b i h.0 h.1 h.2)

-- ---- words

one_word : (x : ℕ) (c : Bool) → eqb x 32 ≡ c → words_in (x ∷ []) ≡ take (up_to 32 (x ∷ [])) (x ∷ []) ∷ words_in (drop (suc (up_to 32 (x ∷ []))) (x ∷ []))
unfolding words_in up_to grow
one_word x true e = simp e
one_word x false e = simp e

module _ (x : ℕ) (xs : List ℕ) where
  more_words :
      (c : Bool) → eqb x 32 ≡ c → words_in xs ≡ take (up_to 32 xs) xs ∷ words_in (drop (suc (up_to 32 xs)) xs)
      → words_in (x ∷ xs) ≡ take (up_to 32 (x ∷ xs)) (x ∷ xs) ∷ words_in (drop (suc (up_to 32 (x ∷ xs))) (x ∷ xs))
  unfolding words_in up_to grow
  more_words true e f = simp e
  more_words false e f = simp e (ap (grow x) f ∙ refl)

  more_split :
      (c : Bool) → eqb x 32 ≡ c → split xs ≡ take (up_to 32 xs) xs ∷ fields (drop (up_to 32 xs) xs)
      → split (x ∷ xs) ≡ take (up_to 32 (x ∷ xs)) (x ∷ xs) ∷ fields (drop (up_to 32 (x ∷ xs)) (x ∷ xs))
  unfolding split up_to grow fields
  more_split true e f = simp e
  more_split false e f = simp e (ap (grow x) f ∙ refl)

-- the first word, and those after the space behind it
first_word : (t : List ℕ) → 0 < length t → words_in t ≡ take (up_to 32 t) t ∷ words_in (drop (suc (up_to 32 t)) t)
first_word [] h = absurd (omega arith)
first_word (x ∷ []) h = one_word x (eqb x 32) refl
first_word (x ∷ (y ∷ ys)) h = more_words x (y ∷ ys) (eqb x 32) refl (first_word (y ∷ ys) (omega arith))

first_field : (t : List ℕ) → split t ≡ take (up_to 32 t) t ∷ fields (drop (up_to 32 t) t)
unfolding split up_to fields
first_field [] = refl
first_field (x ∷ xs) = more_split x xs (eqb x 32) refl (first_field xs)

-- the word that begins at `at` and ends at `end`
module _ (t : List ℕ) (at end : ℕ) (h : at < length t) (e : end ≡ at + up_to 32 (drop at t)) where
  word_next : words_in (drop at t) ≡ take (end - at) (drop at t) ∷ words_in (drop (end + 1) t)
  word_next =
      let b = up_to 32 (drop at t) in
      let k : end - at ≡ b = omega (arith, e) in
      let j : at + suc b ≡ end + 1 = omega (arith, e) in
      first_word (drop at t) (rw length-drop (omega arith))
      ∙ ap (λ (w : List (List ℕ)). take b (drop at t) ∷ w) (ap words_in (drop-drop (suc b) at t ∙ ap (λ (n : ℕ). drop n t) j))
      ∙ ap (λ (n : ℕ). take n (drop at t) ∷ words_in (drop (end + 1) t)) (sym k)

  module _ (name : List ℕ) where
    pub place_hit : same_text (take (end - at) (drop at t)) name ≡ true → place_among (words_in (drop at t)) name ≡ 0
    unfolding place_among
    place_hit f = rw word_next (simp f)

    pub place_miss : same_text (take (end - at) (drop at t)) name ≡ false → place_among (words_in (drop at t)) name ≡ suc (place_among (words_in (drop (end + 1) t)) name)
    unfolding place_among
    place_miss f = rw word_next (simp f)

pub place_end : (t name : List ℕ) (at : ℕ) → length t ≤ at → place_among (words_in (drop at t)) name ≡ 0
unfolding place_among words_in
place_end t name at h = rw (drop_of_length-le t h)

-- ---- numbers

no_number : (p : Result ℕ ParseError) (f : ℕ → Option Arguments) → result_ok p ≡ None → if_value p f ≡ None
no_number (Ok v) f h = absurd (none-some v (sym h))
no_number (Err e) f h = refl

a_number : (p : Result ℕ ParseError) (v : ℕ) → result_ok p ≡ Some v → p ≡ Ok v
a_number (Ok u) v h = ap (λ (o : Option ℕ). Ok (unwrap_or o 0)) h
a_number (Err e) v h = absurd (none-some v h)

-- the word that begins after the byte at `at` and ends at `end`
module _ (t : List ℕ) (at end : ℕ) (h : at < length t) (e : end ≡ at + 1 + up_to 32 (drop (at + 1) t)) where
  field_next : fields (drop at t) ≡ take (end - (at + 1)) (drop (at + 1) t) ∷ fields (drop end t)
  unfolding fields
  field_next =
      let b = up_to 32 (drop (at + 1) t) in
      let k : end - (at + 1) ≡ b = omega (arith, e) in
      rw (drop-cons t at 0)
      (ap split (ap (λ (n : ℕ). drop n t) (sym (add-one at)))
      ∙ first_field (drop (at + 1) t)
      ∙ ap (λ (w : List (List ℕ)). take b (drop (at + 1) t) ∷ w) (ap fields (drop-drop b (at + 1) t ∙ ap (λ (n : ℕ). drop n t) (sym e)))
      ∙ ap (λ (n : ℕ). take n (drop (at + 1) t) ∷ fields (drop end t)) (sym k))

  module _ (k x y z w : ℕ) (p : Result ℕ ParseError) (f : p ≡ parse_of (take (end - (at + 1)) (drop (at + 1) t))) where
    number_next :
        numbers_from k x y z w (fields (drop at t))
        ≡ if_value p (λ v. numbers_from (k + 1) (if_at k 0 v x) (if_at k 1 v y) (if_at k 2 v z) (if_at k 3 v w) (fields (drop end t)))
    unfolding numbers_from
    number_next = rw (field_next, f)

    -- the word is a number
    pub number_more :
        (v x' y' z' w' : ℕ) → result_ok p ≡ Some v → x' ≡ if_at k 0 v x → y' ≡ if_at k 1 v y → z' ≡ if_at k 2 v z → w' ≡ if_at k 3 v w
        → numbers_from k x y z w (fields (drop at t)) ≡ numbers_from (k + 1) x' y' z' w' (fields (drop end t))
    number_more v x' y' z' w' e₁ e₂ e₃ e₄ e₅ = rw (number_next, a_number p v e₁, e₂, e₃, e₄, e₅)

    -- it is none
    pub number_stop : result_ok p ≡ None → numbers_from k x y z w (fields (drop at t)) ≡ None
    number_stop h = number_next ∙ no_number p _ h

  pub store_next : (i x : ℕ) (l : List ℕ) → x ≡ or_zero (parse_of (take (end - (at + 1)) (drop (at + 1) t))) → sets l i (values_of (fields (drop at t))) ≡ sets (set l i x) (i + 1) (values_of (fields (drop end t)))
  unfolding values_of
  store_next i x l f = ap (λ (w : List (List ℕ)). sets l i (values_of w)) field_next ∙ ap₂ (λ (y j : ℕ). sets (set l i y) j (values_of (fields (drop end t)))) (sym f) (sym (add-one i))

module _ (t : List ℕ) (at : ℕ) (h : length t ≤ at) where
  pub numbers_end : (k x y z w : ℕ) → numbers_from k x y z w (fields (drop at t)) ≡ Some (numbers_of k x y z w)
  unfolding numbers_from fields
  numbers_end k x y z w = rw (drop_of_length-le t h)

  pub store_end : (i : ℕ) (l : List ℕ) → sets l i (values_of (fields (drop at t))) ≡ l
  unfolding values_of fields
  store_end i l = rw (drop_of_length-le t h)

-- ---- all the numbers of a line

pub length_values : (fs : List (List ℕ)) → length (values_of fs) ≡ length fs
unfolding values_of
length_values [] = refl
length_values (t ∷ ts) = ap suc (length_values ts)

-- as many numbers as words, where all of them are
numbers_many : (fs : List (List ℕ)) (k x y z w : ℕ) → IfSome (numbers_from k x y z w fs) (λ r. r.n ≡ k + length fs)
unfolding numbers_from
numbers_many [] k x y z w = sym (add-zero k)
numbers_many (t ∷ ts) k x y z w = go (λ a b c d. numbers_many ts (k + 1) a b c d) (parse_of t)
  where
    go : ((a b c d : ℕ) → IfSome (numbers_from (k + 1) a b c d ts) (λ r. r.n ≡ k + 1 + length ts)) → (p : Result ℕ ParseError) → IfSome (if_value p (λ v. numbers_from (k + 1) (if_at k 0 v x) (if_at k 1 v y) (if_at k 2 v z) (if_at k 3 v w) ts)) (λ r. r.n ≡ k + suc (length ts))
    go ih (Ok v) = let d : k + 1 + length ts ≡ k + suc (length ts) = omega arith in subst (λ (m : ℕ). IfSome (numbers_from (k + 1) (if_at k 0 v x) (if_at k 1 v y) (if_at k 2 v z) (if_at k 3 v w) ts) (λ r. r.n ≡ m)) d (ih (if_at k 0 v x) (if_at k 1 v y) (if_at k 2 v z) (if_at k 3 v w))
    go ih (Err e) = tt

pub numbers_length : (fs : List (List ℕ)) (r : Arguments) → Some r ≡ numbers_from 0 0 0 0 0 fs → r.n ≡ length fs
numbers_length fs r e =
    let h : r.n ≡ 0 + length fs = subst (λ (o : Option Arguments). IfSome o (λ r. r.n ≡ 0 + length fs)) (sym e) (numbers_many fs 0 0 0 0 0) in
    omega arith

-- they stand in front, where there are so many words
pub stored_values : (l : List ℕ) (fs : List (List ℕ)) (n : ℕ) → n ≡ length fs → n ≤ length l → take n (sets l 0 (values_of fs)) ≡ values_of fs
stored_values l fs n e h =
    let m : length (values_of fs) ≡ n = length_values fs ∙ sym e in
    ap (take n) (sets-eq (values_of fs) l 0 (omega (arith, m, h))) ∙ take_at (values_of fs) (drop (0 + length (values_of fs)) l) n m
