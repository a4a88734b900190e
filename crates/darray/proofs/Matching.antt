-- Whether words are those of an index. Assumes nothing.
use mathlib.Core.Path.{◌≡◌, refl, sym, ap, ap₂, ◌∙◌, subst}
use mathlib.Core.List.{List, [], ◌∷◌}
use mathlib.Core.Bool.{Bool, true, false}
use mathlib.Core.Logic.{◌⊎◌, ⊎_elim}
use Prim.Native.Nat.{ℕ, ◌+◌, ◌-◌, ◌*◌, ◌≤◌, ◌<◌}
use native.Mathlib.Nat.{eq-or-lt_of_le}
use native.Mathlib.Decide.{dec_lt, ℕ_discrete}
use native.Mathlib.Numerals.{add-one}
use native.Mathlib.Omega.{arith}
use borrow.Author.Tests.{eq-eqb, ne_eqb}
use lib.Dec.{eqb}
use lib.ListN.{length, get_or, take, drop, length-drop}
use lib.Seq.{ext_get_or, get_or-take, get_or-drop, length-take-le}
use Rattle.std.specs.Cmp.Lexicographic.{pointwise}
use Rattle.std.proofs.lemmas.Bool.Decides.{Decides-eqb}
use Rattle.std.proofs.lemmas.Slice.Eq.{slice_eq-Decides}
use Rattle.broadword.proofs.Truth.{true_false}
use Rattle.darray_positions.specs.Index.{blocks, size, spill, before, entry, lane_word, lane_words, overflow, index_words}
use Rattle.darray.specs.Pending.{Decides, Reads, Matches}
use Rattle.darray.specs.Queries.{same}
use Rattle.darray_positions.proofs.Index as index
use Rattle.darray_positions.proofs.Index.{Holds}
use Rattle.darray.proofs.Flush as flush
use Rattle.darray.proofs.Flush.{Shows}

pub it_is : {A : Type 0} → A → Decides true A
it_is a = record { yes = λ _. a; no = λ e _. true_false e }

pub it_is_not : {A : Type 0} → (A → ⊥) → Decides false A
it_is_not f = record { yes = λ e. absurd (true_false (sym e)); no = λ _ a. f a }

pub decides_by : {A B : Type 0} (r : Bool) → Decides r A → (A → B) → (B → A) → Decides r B
decides_by r d to from = record { yes = λ e. to (d.yes e); no = λ e x. d.no e (from x) }

pub matches_at : (a l : List ℕ) {n n' j j' x x' o o' y y' : ℕ} → n ≡ n' → j ≡ j' → x ≡ x' → o ≡ o' → y ≡ y' → Matches a n j x o y l → Matches a n' j' x' o' y' l
matches_at a l {n} {n'} {j} {j'} {x} {x'} {o} {o'} {y} {y'} p i q r t m =
    subst (λ (k : ℕ). Matches a k j' x' o' y' l) p
    (subst (λ (k : ℕ). Matches a n k x' o' y' l) i
    (subst (λ (k : ℕ). Matches a n j k o' y' l) q (subst (λ (k : ℕ). Matches a n j x k y' l) r (subst (λ (k : ℕ). Matches a n j x o k l) t m))))

-- a part of words that is compared with the first n words of a list
pub reads_is : (l : List ℕ) (at end : ℕ) (s : List ℕ) (n : ℕ) (r : Bool) → end ≡ at + n → end ≤ length l → n ≤ length s → r ≡ pointwise eqb (take (end - at) (drop at l)) (take n s) → Decides r (Reads l at (λ i. get_or s i 0) n)
reads_is l at end s n r e h k q =
    let d = slice_eq-Decides {E = eqb} Decides-eqb (take (end - at) (drop at l)) (take n s) r q in
    let part : (i : ℕ) → i < n → get_or (take (end - at) (drop at l)) i 0 ≡ get_or l (at + i) 0 = λ i g. get_or-take (end - at) (drop at l) i 0 (omega arith) ∙ get_or-drop at l i 0 in
    let long : length (take (end - at) (drop at l)) ≡ n = length-take-le (end - at) (drop at l) (omega (arith, length-drop at l)) ∙ omega arith in
    record {
      yes = λ t i g. sym (part i g) ∙ ap (λ (x : List ℕ). get_or x i 0) (d.0 t) ∙ get_or-take n s i 0 g;
      no = λ f x. true_false (sym (d.1 (ext_get_or 0 _ _ (long ∙ sym (length-take-le n s k)) (λ i g.
          let m : i < n = subst (λ (z : ℕ). i < z) long g in
          part i m ∙ x i m ∙ sym (get_or-take n s i 0 m)))) ∙ f);
    }

-- ---- the block j of the positions P

module _ (P : List ℕ) (j : ℕ) (h : j < blocks P) (a : List ℕ) (is : Shows P j a) (l : List ℕ) where
  -- an index has its words
  pub index_matches : l ≡ index_words P → Matches a (size P j) j (blocks P + 8 * j) (before P j) (blocks P + lane_words P + before P j) l
  index_matches e = record {
    entry = ap (λ (x : List ℕ). get_or x j 0) e ∙ index.index_entry P j h ∙ sym (flush.entry_block P j h a is);
    lane_words = λ t g.
        let q : blocks P + 8 * j + t ≡ blocks P + (8 * j + t) = omega arith in
        ap₂ (λ (x : List ℕ) (k : ℕ). get_or x k 0) e q ∙ index.index_lanes P (8 * j + t) (omega (arith, flush.lanes_room P j h)) ∙ sym (flush.lane_word_block P j h a is t (omega (arith, index.size_le P j)));
    spilled = λ i g.
        let q : blocks P + lane_words P + before P j + i ≡ blocks P + lane_words P + (before P j + i) = omega arith in
        let m : i < spill P j = subst (λ (n : ℕ). i < n) (flush.spill_block P j h a is) g in
        ap₂ (λ (x : List ℕ) (k : ℕ). get_or x k 0) e q ∙ index.index_spilled P j i m h ∙ sym (is.all i m);
  }

  -- and with its words, the words of one block more are the index's
  pub matches_next : Matches a (size P j) j (blocks P + 8 * j) (before P j) (blocks P + lane_words P + before P j) l → Holds P l j → Holds P l (j + 1)
  matches_next m s = record {
    entries = λ k g. by_entry k (eq-or-lt_of_le (below_one k j g));
    lane_words = λ t g e. by_lane t g e (dec_lt t (8 * j));
    spilled = λ x g. by_over x g (dec_lt x (before P j));
  }
    where
      below_one : (k j : ℕ) → k < j + 1 → k ≤ j
      below_one k j g = omega arith

      by_entry : (k : ℕ) → (k ≡ j) ⊎ (k < j) → get_or l k 0 ≡ entry P k
      by_entry k w = ⊎_elim (λ (e : k ≡ j). ap (λ (i : ℕ). get_or l i 0) e ∙ m.entry ∙ flush.entry_block P j h a is ∙ ap (entry P) (sym e)) (λ (g : k < j). s.entries k g) w

      by_lane : (t : ℕ) → t < 8 * (j + 1) → t < lane_words P → Dec (t < 8 * j) → get_or l (blocks P + t) 0 ≡ lane_word P t
      by_lane t g e (yes q) = s.lane_words t q e
      by_lane t g e (no q) =
          let i : ℕ = t - 8 * j in
          let z : blocks P + 8 * j + i ≡ blocks P + t = omega arith in
          let y : 8 * j + i ≡ t = omega arith in
          ap (λ (k : ℕ). get_or l k 0) (sym z) ∙ m.lane_words i (omega (arith, flush.lanes_all P j t h g e)) ∙ flush.lane_word_block P j h a is i (omega arith) ∙ ap (lane_word P) y

      by_over : (x : ℕ) → x < before P (j + 1) → Dec (x < before P j) → get_or l (blocks P + lane_words P + x) 0 ≡ get_or (overflow P (blocks P)) x 0
      by_over x g (yes q) = s.spilled x q
      by_over x g (no q) =
          let i : ℕ = x - before P j in
          let z : blocks P + lane_words P + before P j + i ≡ blocks P + lane_words P + x = omega arith in
          let y : before P j + i ≡ x = omega arith in
          let n : i < spill P j = omega (arith, index.before_next P j, ap (before P) (add-one j)) in
          ap (λ (k : ℕ). get_or l k 0) (sym z) ∙ m.spilled i (subst (λ (w : ℕ). i < w) (sym (flush.spill_block P j h a is)) n)
          ∙ is.all i n ∙ sym (index.overflow_at P j i (blocks P) n h) ∙ ap (λ (k : ℕ). get_or (overflow P (blocks P)) k 0) y

-- ---- the whole index

pub holds_is : (P l : List ℕ) → length l ≡ length (index_words P) → Holds P l (blocks P) → l ≡ index_words P
holds_is P l e h = ext_get_or 0 l (index_words P) e (λ i g. index.holds_all P l h i (subst (λ (n : ℕ). i < n) e g))

pub same_refl : (l : List ℕ) → same l l ≡ true
unfolding same
same_refl [] = refl
same_refl (x ∷ xs) = rw (eq-eqb x x refl) (same_refl xs)

pub same_true : (l m : List ℕ) → same l m ≡ true → l ≡ m
unfolding same
same_true [] [] e = refl
same_true [] (y ∷ ys) e = absurd (true_false (sym e))
same_true (x ∷ xs) [] e = absurd (true_false (sym e))
same_true (x ∷ xs) (y ∷ ys) e = by (same_true xs ys) (ℕ_discrete x y)
  where
    by : (same xs ys ≡ true → xs ≡ ys) → Dec (x ≡ y) → (x ∷ xs) ≡ (y ∷ ys)
    by ih (yes p) = ap₂ (λ (u : ℕ) (v : List ℕ). u ∷ v) p (ih (rw (eq-eqb x y p) at e))
    by ih (no p) = absurd (true_false (sym (rw (ne_eqb x y p) at e)))

pub same_is : (r : Bool) (l m : List ℕ) → Decides r (l ≡ m) → r ≡ same l m
same_is true l m d = sym (ap (same l) (sym (d.yes refl)) ∙ same_refl l)
same_is false l m d = by (same l m) refl
  where
    by : (s : Bool) → same l m ≡ s → false ≡ same l m
    by true e = absurd (d.no refl (same_true l m e))
    by false e = sym e
