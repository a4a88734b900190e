-- What each question of an opened vector answers, case by case. Assumes nothing.
use Rattle.std.specs.Prelude.{Option, Some, None, is_some}
use mathlib.Core.Path.{◌≡◌, refl, sym, ap, ◌∙◌, subst}
use mathlib.Core.List.{List, [], ◌∷◌}
use mathlib.Core.Bool.{Bool, true, false, not, ◌||◌, cond}
use Prim.Native.Nat.{ℕ, suc, ◌-◌, ◌≤◌, ◌<◌}
use native.Mathlib.Nat.{le_refl}
use native.Mathlib.Omega.{arith}
use borrow.Author.Tests.{lt-ltb, le-ltb, le-leb, lt-leb}
use lib.Dec.{eqb, leb, ltb}
use lib.ListN.{length, get_or, take, drop}
use lib.Seq.{take_all}
use Rattle.errors.specs.Answer.{Answer, value, none, done, refused, of_option}
use Rattle.broadword.specs.Fields.{flag}
use Rattle.elias_fano_words.proofs.Rising.{rising_lt}
use Rattle.elias_fano.specs.Accept.{universe, ranked, times, accepted, parts_of}
use Rattle.elias_fano.specs.Ask.{Predecessor, Successor, Binsearch, nth, below, greatest, smallest, first_index, searched, ask, asked}
use Rattle.elias_fano.specs.Opening.{Open}
use Rattle.elias_fano.proofs.Answers.{refused_value}
use Rattle.elias_fano.proofs.Selecting as selecting
use Rattle.elias_fano_queries.proofs.Answering.{no_of}
use Rattle.elias_fano_queries.proofs.Below as below-law
use Rattle.elias_fano_queries.proofs.Opened as opened
use Rattle.sarray.specs.Ask.{Access, Rank1, Select1, Predecessor1, Successor1, member, sparse_ask}
use Rattle.sarray.specs.declared.vector.SArray.{SArray}
use Rattle.sarray.specs.Opened.{OpenVector}
use Rattle.sarray.proofs.Vectors as vectors

-- ---- a search finds what is in the list

refused_none : (k : ℕ) → refused k ≡ none → ⊥
refused_none k e = let z : ◌≡◌ {A = ℕ} 0 1 = cc in omega arith

-- whether an answer is a value
abbrev is_value : Answer → Bool
is_value (value k) = true
is_value none = false
is_value done = false
is_value (refused k) = false

some_value : (o : Option ℕ) → is_some o ≡ is_value (of_option o)
some_value (Some x) = refl
some_value None = refl

first_in : (v k : ℕ) (T : List ℕ) → is_value (first_index v k T) ≡ member v T
unfolding first_index member
first_in v k [] = refl
first_in v k (x ∷ T) = by (eqb x v) (first_index v (suc k) T) (member v T) (first_in v (suc k) T)
  where
    by : (b : Bool) (a : Answer) (m : Bool) → is_value a ≡ m → is_value (cond b (value k) a) ≡ (b || m)
    by true a m e = refl
    by false a m e = e

not_refused : (v k j : ℕ) (T : List ℕ) → refused j ≡ first_index v k T → ⊥
unfolding first_index
not_refused v k j [] e = refused_none j e
not_refused v k j (x ∷ T) e = by (eqb x v) (first_index v (suc k) T) (not_refused v (suc k) j T) e
  where
    by : (b : Bool) (a : Answer) → (refused j ≡ a → ⊥) → refused j ≡ cond b (value k) a → ⊥
    by true a h q = refused_value j k q
    by false a h q = h q

pub nothing_in : (T : List ℕ) → length T ≡ 0 → T ≡ []
nothing_in [] e = refl
nothing_in (x ∷ T) e = absurd (omega arith)

-- over the whole list
whole : (T : List ℕ) (v : ℕ) → (length T ≡ 0 → ⊥) → searched T 0 (length T) v ≡ first_index v 0 T
unfolding searched
whole T v h =
    no_of (leb (length T) 0) none (cond (ltb (length T) (length T)) (refused 9) (first_index v 0 (take (length T - 0) (drop 0 T)))) (lt-leb (length T) 0 (let q : 0 < length T = omega arith in q))
    ∙ no_of (ltb (length T) (length T)) (refused 9) (first_index v 0 (take (length T - 0) (drop 0 T))) (le-ltb (length T) (length T) (le_refl (length T)))
    ∙ ap (first_index v 0) (take_all (length T - 0) T (let q : length T ≤ length T - 0 = omega arith in q))

-- ---- the questions

module _ (i : List ℕ) (v : SArray) (o : OpenVector i v) where
  abbrev u : ℕ
  u = v.num_bits

  abbrev c : Bool
  c = v.has_rank

  abbrev T : List ℕ
  T = times i

  -- without a one there is no time
  no_times : v.num_ones ≡ 0 → T ≡ []
  no_times e = nothing_in T (sym (vectors.many i v o) ∙ e)

  module _ (some : v.num_ones ≡ 0 → ⊥) where
    ok : accepted i ≡ true
    ok = vectors.image_ok i v o some

    is_parts : v.parts ≡ parts_of i
    is_parts = vectors.parts_are i v o some

    pub is_open : Open i v.parts
    is_open = record { ok = ok; parts = is_parts }

    pub ones_are : v.num_ones ≡ v.parts.num_pushed
    ones_are = vectors.many i v o ∙ sym (selecting.pushed_is i ok v.parts is_parts)

    pub bits_are : v.num_bits ≡ v.parts.universe
    bits_are = sym (opened.universe_is i ok v.parts is_parts ∙ vectors.long i v o some)

    pub choice_is : v.has_rank ≡ v.parts.rank
    choice_is = sym (opened.rank_is i ok v.parts is_parts ∙ vectors.choice i v o some)

  -- ---- access

  module _ (x : ℕ) where
    pub access_past : u ≤ x → none ≡ sparse_ask u c T (Access x)
    unfolding sparse_ask
    access_past h = sym (simp (le-leb u x h))

    module _ (h : x < u) where
      within : sparse_ask u c T (Access x) ≡ value (flag (member x T))
      unfolding sparse_ask
      within = simp (lt-leb u x h)

      pub access_zeros : v.num_ones ≡ 0 → value 0 ≡ sparse_ask u c T (Access x)
      unfolding member
      access_zeros e = sym (within ∙ ap (λ (S : List ℕ). value (flag (member x S))) (no_times e))

      module _ (some : v.num_ones ≡ 0 → ⊥) where
        search_is : asked i (Binsearch x) ≡ first_index x 0 T
        unfolding ask
        search_is = whole T x (λ e. some (vectors.many i v o ∙ e))

        pub access_found : (o : Option ℕ) → of_option o ≡ asked i (Binsearch x) → value (flag (is_some o)) ≡ sparse_ask u c T (Access x)
        access_found o e = ap (λ (b : Bool). value (flag b)) (some_value o ∙ ap is_value (e ∙ search_is) ∙ first_in x 0 T) ∙ sym within

        pub no_refusal : (k : ℕ) → refused k ≡ asked i (Binsearch x) → ⊥
        no_refusal k e = not_refused x 0 k T (e ∙ search_is)

  -- ---- without the choice

  module _ (h : not c ≡ true) (x : ℕ) where
    pub rank_8 : refused 8 ≡ sparse_ask u c T (Rank1 x)
    unfolding sparse_ask
    rank_8 = sym (simp h)

    pub predecessor_8 : refused 8 ≡ sparse_ask u c T (Predecessor1 x)
    unfolding sparse_ask
    predecessor_8 = sym (simp h)

    pub successor_8 : refused 8 ≡ sparse_ask u c T (Successor1 x)
    unfolding sparse_ask
    successor_8 = sym (simp h)

  -- ---- with it

  module _ (h : not c ≡ false) (x : ℕ) where
    pub rank_past : u < x → none ≡ sparse_ask u c T (Rank1 x)
    unfolding sparse_ask
    rank_past g = sym (simp (h, lt-ltb u x g))

    pub rank_is : x ≤ u → (k : ℕ) → k ≡ below x T → value k ≡ sparse_ask u c T (Rank1 x)
    unfolding sparse_ask
    rank_is g k e = ap value e ∙ sym (simp (h, le-ltb u x g))

    pub rank_zeros : x ≤ u → v.num_ones ≡ 0 → value 0 ≡ sparse_ask u c T (Rank1 x)
    rank_zeros g e = rank_is g 0 (sym (below-law.below_none x) ∙ ap (below x) (sym (no_times e)))

    pub rank_end : x ≤ u → (v.num_ones ≡ 0 → ⊥) → x ≡ u → value v.num_ones ≡ sparse_ask u c T (Rank1 x)
    rank_end g some e =
        rank_is g v.num_ones (vectors.many i v o ∙ sym (below-law.below_is (universe i) x T (opened.rises i (ok some)) (length T) (le_refl (length T)) (λ (q : 0 < length T).
        let m = rising_lt (universe i) T (length T - 1) (opened.rises i (ok some)) (omega arith) in
        let z = vectors.long i v o some in
        omega arith)
        (λ q. absurd (omega arith))))

    pub predecessor_past : u ≤ x → none ≡ sparse_ask u c T (Predecessor1 x)
    unfolding sparse_ask
    predecessor_past g = sym (simp (h, le-leb u x g))

    pub successor_past : u ≤ x → none ≡ sparse_ask u c T (Successor1 x)
    unfolding sparse_ask
    successor_past g = sym (simp (h, le-leb u x g))

    pub predecessor_zeros : v.num_ones ≡ 0 → none ≡ sparse_ask u c T (Predecessor1 x)
    unfolding sparse_ask greatest
    predecessor_zeros e = sym (no_of (not c) (refused 8) (cond (leb u x) none (greatest x T)) h ∙ ap (λ (S : List ℕ). cond (leb u x) none (greatest x S)) (no_times e) ∙ either (leb u x))
      where
        either : (b : Bool) → cond b none none ≡ none
        either true = refl
        either false = refl

    module _ (g : x < u) where
      pub successor_zeros : v.num_ones ≡ 0 → none ≡ sparse_ask u c T (Successor1 x)
      unfolding sparse_ask smallest
      successor_zeros e = sym (no_of (not c) (refused 8) (cond (leb u x) none (smallest x T)) h ∙ no_of (leb u x) none (smallest x T) (lt-leb u x g) ∙ ap (smallest x) (no_times e))

      module _ (some : v.num_ones ≡ 0 → ⊥) where
        -- the record's settings
        inside : leb (universe i) x ≡ false
        inside = lt-leb (universe i) x (subst (λ (n : ℕ). x < n) (sym (vectors.long i v o some)) g)

        chosen : not (ranked i) ≡ false
        chosen = ap not (vectors.choice i v o some) ∙ h

        pub predecessor_is : asked i (Predecessor x) ≡ sparse_ask u c T (Predecessor1 x)
        unfolding ask sparse_ask
        predecessor_is = simp (chosen, h, lt-leb u x g)

        pub successor_is : asked i (Successor x) ≡ sparse_ask u c T (Successor1 x)
        unfolding ask sparse_ask
        successor_is = simp (inside, chosen, h, lt-leb u x g)

  -- ---- select

  module _ (k : ℕ) where
    pub select_none : v.num_ones ≤ k → none ≡ sparse_ask u c T (Select1 k)
    unfolding sparse_ask nth
    select_none h = sym (simp (le-ltb k (length T) (subst (λ (n : ℕ). n ≤ k) (vectors.many i v o) h)))

    pub select_some : k < v.num_ones → (x : ℕ) → x ≡ get_or T k 0 → value x ≡ sparse_ask u c T (Select1 k)
    unfolding sparse_ask nth
    select_some h x e = ap value e ∙ sym (simp (lt-ltb k (length T) (subst (λ (n : ℕ). k < n) (vectors.many i v o) h)))
