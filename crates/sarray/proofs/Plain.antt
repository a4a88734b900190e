-- Every question of what a call writes is that question of the plain bits. Assumes nothing.
use Rattle.std.specs.Prelude.{Some, None}
use mathlib.Core.Path.{◌≡◌, refl, sym, ap, ap₂, ◌∙◌, subst}
use mathlib.Core.List.{List, [], ◌∷◌, ◌++◌}
use mathlib.Core.Bool.{Bool, true, false, not, ◌||◌, cond}
use Prim.Native.Nat.{ℕ, zero, suc, ◌+◌, ◌≤◌, ◌<◌, min}
use native.Mathlib.Nat.{lt_of_not-le}
use native.Mathlib.Decide.{dec_lt, dec_le, ℕ_discrete}
use native.Mathlib.Omega.{arith}
use borrow.Author.Tests.{lt-ltb, le-ltb, le-leb, lt-leb, eq-eqb, ne_eqb}
use lib.Dec.{eqb, leb, ltb}
use lib.ListN.{length, get_or}
use Rattle.errors.specs.Answer.{Answer, value, none, refused, of_option}
use Rattle.broadword.specs.Bits.{count}
use Rattle.broadword.specs.Fields.{flag}
use Rattle.broadword.specs.Places.{last, select}
use Rattle.broadword.proofs.Count.{count_mono}
use Rattle.broadword.proofs.Find.{Selected, last_at, last_none, select_none}
use Rattle.bit_words.specs.Vector.{bit_at, bit_over, invalid}
use Rattle.bit_words.proofs.Last.{not_one}
use Rattle.bit_words.proofs.Runs.{bit_over_le}
use Rattle.bit_vectors.specs.Queries.{if_valid, access_of, rank1_of, select_bit_of, predecessor1_of}
use Rattle.darray_positions.specs.Positions.{places}
use Rattle.darray_positions.proofs.Positions as position
use Rattle.elias_fano_words.proofs.Bitwise.{count-one}
use Rattle.elias_fano.specs.Ask.{nth, below, greatest, smallest}
use Rattle.elias_fano_queries.proofs.Answering.{yes_of, no_of}
use Rattle.elias_fano_queries.proofs.Below as below-law
use Rattle.elias_fano_from_bits.specs.FromBits.{ones_of}
use Rattle.elias_fano_from_bits.proofs.Ones as ones
use Rattle.sarray.specs.Ask.{SparseQuestion, Access, Rank1, Select1, Predecessor1, Successor1, member, sparse_ask}
use Rattle.sarray.specs.Build.{plain}

-- ---- the places of the ones, as a list of set places

or_false : (b : Bool) → (b || false) ≡ b
or_false true = refl
or_false false = refl

member_snoc : (p x : ℕ) (S : List ℕ) → member p (S ++ (x ∷ [])) ≡ (member p S || eqb x p)
unfolding member
member_snoc p x [] = or_false (eqb x p)
member_snoc p x (y ∷ S) = ap (λ (b : Bool). eqb y p || b) (member_snoc p x S) ∙ by (eqb y p)
  where
    by : (b : Bool) → (b || (member p S || eqb x p)) ≡ ((b || member p S) || eqb x p)
    by true = refl
    by false = refl

or_true : (b : Bool) → (b || true) ≡ true
or_true true = refl
or_true false = refl

module _ (f : ℕ → ℕ) (bits : (i : ℕ) → f i ≤ 1) (p : ℕ) where
  -- none from the end on
  past : (n : ℕ) → n ≤ p → member p (places f n) ≡ false
  unfolding places member
  past zero h = refl
  past (suc n) h = by (eqb (f n) 1) (past n (omega arith))
    where
      by : (b : Bool) → member p (places f n) ≡ false → member p (cond b (places f n ++ (n ∷ [])) (places f n)) ≡ false
      by true e = member_snoc p n (places f n) ∙ ap₂ (λ (a b : Bool). a || b) e (ne_eqb n p (λ q. omega arith))
      by false e = e

  -- the bit is whether its place is there
  pub member-bit : (n : ℕ) → p < n → flag (member p (places f n)) ≡ f p
  unfolding places
  member-bit zero h = absurd (omega arith)
  member-bit (suc n) h = by (λ g. member-bit n g) (ℕ_discrete n p) (ℕ_discrete (f n) 1)
    where
      step : (b : Bool) → eqb (f n) 1 ≡ b → member p (cond (eqb (f n) 1) (places f n ++ (n ∷ [])) (places f n)) ≡ member p (cond b (places f n ++ (n ∷ [])) (places f n))
      step b e = ap (λ (t : Bool). member p (cond t (places f n ++ (n ∷ [])) (places f n))) e

      by : (p < n → flag (member p (places f n)) ≡ f p) → Dec (n ≡ p) → Dec (f n ≡ 1) → flag (member p (cond (eqb (f n) 1) (places f n ++ (n ∷ [])) (places f n))) ≡ f p
      by r (yes q) (yes e) =
          ap flag (step true (eq-eqb (f n) 1 e) ∙ member_snoc p n (places f n) ∙ ap (λ (b : Bool). member p (places f n) || b) (eq-eqb n p q) ∙ or_true (member p (places f n)))
          ∙ sym (ap f (sym q) ∙ e)
      by r (yes q) (no e) =
          ap flag (step false (ne_eqb (f n) 1 e) ∙ past n (omega arith)) ∙ sym (ap f (sym q) ∙ not_one (f n) (bits n) e)
      by r (no q) (yes e) =
          ap flag (step true (eq-eqb (f n) 1 e) ∙ member_snoc p n (places f n) ∙ ap (λ (b : Bool). member p (places f n) || b) (ne_eqb n p q) ∙ or_false (member p (places f n)))
          ∙ r (omega arith)
      by r (no q) (no e) = ap flag (step false (ne_eqb (f n) 1 e)) ∙ r (omega arith)

-- ---- the last one

module _ (f : ℕ → ℕ) (bits : (i : ℕ) → f i ≤ 1) (n : ℕ) where
  nothing_last : count f n ≡ 0 → last f n ≡ None
  nothing_last e = last_none f n (λ j h. not_one (f j) (bits j) (λ o. let a = count-one f j n o h in omega arith))

  -- it is the one that all others stand before
  last_selected : (k i m : ℕ) → count f n ≡ suc k → Selected f m k i → i < n → last f n ≡ Some i
  last_selected k i m e s h =
      last_at f n i h s.one (λ j a b. not_one (f j) (bits j) (λ o.
      let x = count-one f i j s.one a in
      let y = count-one f j n o b in
      omega (arith, s.before)))

-- ---- the questions of the places

module _ (ws : List ℕ) (len : ℕ) (c : Bool) (ok : invalid ws len ≡ false) where
  abbrev f : ℕ → ℕ
  f = bit_over true ws

  abbrev S : List ℕ
  S = ones_of ws len

  bits : (i : ℕ) → bit_over true ws i ≤ 1
  bits = bit_over_le true ws

  same_count : (n : ℕ) → count (bit_over true ws) n ≡ count (bit_at ws) n
  unfolding bit_over
  same_count n = refl

  -- how many are below a place
  below_is : (x : ℕ) → x ≤ len → below x S ≡ count f x
  below_is x h = ones.below-upto ws len x ∙ ap (count f) (let e : min x len ≡ x = omega arith in e)

  valid : (a : Answer) → if_valid ws len a ≡ a
  unfolding if_valid
  valid a = simp ok

  access_is : (p : ℕ) → sparse_ask len c S (Access p) ≡ access_of ws len p
  unfolding sparse_ask access_of bit_over
  access_is p = by (dec_lt p len) ∙ sym (valid (cond (ltb p len) (value (bit_at ws p)) none))
    where
      by : Dec (p < len) → cond (leb len p) none (value (flag (member p S))) ≡ cond (ltb p len) (value (bit_at ws p)) none
      by (yes h) = no_of (leb len p) none (value (flag (member p S))) (lt-leb len p h) ∙ ap value (member-bit f bits p len h) ∙ sym (yes_of (ltb p len) (value (bit_at ws p)) none (lt-ltb p len h))
      by (no h) = let g : len ≤ p = omega (arith, lt_of_not-le h) in simp (le-leb len p g, le-ltb p len g)

  rank_is : (p : ℕ) → sparse_ask len c S (Rank1 p) ≡ cond (not c) (refused 8) (rank1_of ws len p)
  unfolding sparse_ask rank1_of
  rank_is p = ap (cond (not c) (refused 8)) (by (dec_le p len) ∙ sym (valid (cond (leb p len) (value (count (bit_at ws) p)) none)))
    where
      by : Dec (p ≤ len) → cond (ltb len p) none (value (below p S)) ≡ cond (leb p len) (value (count (bit_at ws) p)) none
      by (yes h) = no_of (ltb len p) none (value (below p S)) (le-ltb len p h) ∙ ap value (below_is p h ∙ same_count p) ∙ sym (yes_of (leb p len) (value (count (bit_at ws) p)) none (le-leb p len h))
      by (no h) = let g = lt_of_not-le h in simp (lt-ltb len p g, lt-leb p len g)

  nth_is : (k : ℕ) → nth S k ≡ of_option (select f len k)
  unfolding nth
  nth_is k = by (dec_lt k (length S))
    where
      by : Dec (k < length S) → cond (ltb k (length S)) (value (get_or S k 0)) none ≡ of_option (select f len k)
      by (yes h) = yes_of (ltb k (length S)) (value (get_or S k 0)) none (lt-ltb k (length S) h) ∙ sym (ap of_option (position.place_select f bits len k (subst (λ (n : ℕ). k < n) (ones.many ws len) h)))
      by (no h) = let g : length S ≤ k = omega (arith, lt_of_not-le h) in no_of (ltb k (length S)) (value (get_or S k 0)) none (le-ltb k (length S) g) ∙ sym (ap of_option (select_none f len k (subst (λ (n : ℕ). n ≤ k) (ones.many ws len) g)))

  select_is : (k : ℕ) → nth S k ≡ select_bit_of ws len true k
  unfolding select_bit_of
  select_is k = nth_is k ∙ sym (valid (of_option (select f len k)))

  greatest_is : (p : ℕ) → p < len → greatest p S ≡ of_option (last f (p + 1))
  greatest_is p h = by (count f (suc p)) refl
    where
      far : below (suc p) S ≡ count f (suc p)
      far = below_is (suc p) h

      next : p + 1 ≡ suc p
      next = omega arith

      by : (n : ℕ) → count f (suc p) ≡ n → greatest p S ≡ of_option (last f (p + 1))
      by zero e = below-law.greatest_none len p S (ones.rises ws len) (far ∙ e) ∙ sym (ap of_option (ap (last f) next ∙ nothing_last f bits (suc p) e))
      by (suc k) e =
          let m = count_mono f (suc p) len h in
          let s = ones.has ws len k (let q = ones.many ws len in omega arith) in
          let g : get_or S k 0 < suc p = position.below f (get_or S k 0) (suc p) (omega (arith, s.before)) in
          below-law.greatest_some len p S (ones.rises ws len) k (far ∙ e) ∙ sym (ap of_option (ap (last f) next ∙ last_selected f bits (suc p) k (get_or S k 0) len e s g))

  -- answers that agree below the length, where from it on there is none
  inside : (p : ℕ) (a b : Answer) → (p < len → a ≡ b) → cond (leb len p) none a ≡ cond (leb len p) none b
  inside p a b e = by (dec_lt p len)
    where
      by : Dec (p < len) → cond (leb len p) none a ≡ cond (leb len p) none b
      by (yes h) = ap (cond (leb len p) none) (e h)
      by (no h) = let g : len ≤ p = omega (arith, lt_of_not-le h) in simp (le-leb len p g)

  predecessor_is : (p : ℕ) → sparse_ask len c S (Predecessor1 p) ≡ cond (not c) (refused 8) (cond (leb len p) none (predecessor1_of ws len p))
  unfolding sparse_ask predecessor1_of bit_over
  predecessor_is p =
      ap (cond (not c) (refused 8)) (inside p _ _ (λ h.
      greatest_is p h ∙ ap (λ (n : ℕ). of_option (last f n)) (let e : p + 1 ≡ min (p + 1) len = omega arith in e) ∙ sym (valid (of_option (last f (min (p + 1) len))))))

  smallest_is : (p : ℕ) → p < len → smallest p S ≡ nth S (below p S)
  unfolding nth
  smallest_is p h = by (dec_lt (below p S) (length S))
    where
      by : Dec (below p S < length S) → smallest p S ≡ cond (ltb (below p S) (length S)) (value (get_or S (below p S) 0)) none
      by (yes l) = below-law.smallest_some len p S (ones.rises ws len) l ∙ sym (simp (lt-ltb (below p S) (length S) l))
      by (no l) = let g : length S ≤ below p S = omega (arith, lt_of_not-le l) in below-law.smallest_none len p S (ones.rises ws len) g ∙ sym (simp (le-ltb (below p S) (length S) g))

  successor_is : (p : ℕ) → sparse_ask len c S (Successor1 p) ≡ cond (not c) (refused 8) (cond (leb len p) none (select_bit_of ws len true (count (bit_at ws) p)))
  unfolding sparse_ask
  successor_is p =
      ap (cond (not c) (refused 8)) (inside p _ _ (λ h.
      smallest_is p h ∙ select_is (below p S) ∙ ap (select_bit_of ws len true) (below_is p (omega arith) ∙ same_count p)))

  pub plain_is : (q : SparseQuestion) → sparse_ask len c S q ≡ plain ws len c q
  unfolding sparse_ask plain
  plain_is (Access p) = access_is p
  plain_is (Rank1 p) = rank_is p
  plain_is (Select1 k) = select_is k
  plain_is (Predecessor1 p) = predecessor_is p
  plain_is (Successor1 p) = successor_is p
