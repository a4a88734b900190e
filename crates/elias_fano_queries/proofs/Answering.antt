-- What each question of an opened image answers, case by case, in terms of its parts. Assumes nothing.
use mathlib.Core.Path.{◌≡◌, refl, sym, ap, ap₂, ◌∙◌, subst}
use mathlib.Core.List.{List, ◌∷◌}
use mathlib.Core.Bool.{Bool, true, false, not, ◌&&◌, cond}
use Prim.Native.Nat.{ℕ, zero, suc, ◌+◌, ◌-◌, ◌/◌, ◌^◌, ◌≤◌, ◌<◌}
use native.Mathlib.Nat.{le_refl, le_of_lt}
use native.Mathlib.Omega.{arith}
use borrow.Author.Tests.{lt-ltb, le-ltb, le-leb, lt-leb, eq-eqb, ne_eqb}
use lib.Dec.{eqb, leb, ltb}
use lib.ListN.{length, get_or}
use Rattle.errors.specs.Answer.{Answer, value, none, refused}
use Rattle.broadword.specs.Bits.{count}
use Rattle.broadword.specs.Fields.{flag}
use Rattle.bit_words.specs.Vector.{bit_at}
use Rattle.elias_fano_words.proofs.Rising.{rising_lt, rising_le}
use Rattle.elias_fano.specs.declared.image.Parts.{Parts}
use Rattle.elias_fano.specs.Accept.{universe, times, accepted, parts_of}
use Rattle.elias_fano.specs.Ask.{Select, Delta, Rank, Predecessor, Successor, Len, IsEmpty, Universe, HasRank, nth, gap, below, greatest, smallest, ask, asked}
use Rattle.elias_fano.proofs.Selecting as selecting
use Rattle.elias_fano_queries.specs.Demands.{Behind}
use Rattle.elias_fano.specs.Opening.{high_part}
use Rattle.elias_fano_queries.proofs.Below as below-law
use Rattle.elias_fano_queries.proofs.Opened as opened

-- a choice whose test is known
pub yes_of : (b : Bool) (x y : Answer) → b ≡ true → cond b x y ≡ x
yes_of b x y e = ap (λ (t : Bool). cond t x y) e

pub no_of : (b : Bool) (x y : Answer) → b ≡ false → cond b x y ≡ y
no_of b x y e = ap (λ (t : Bool). cond t x y) e

module _ (i : List ℕ) (ok : accepted i ≡ true) (p : Parts) (ep : p ≡ parts_of i) where
  abbrev u : ℕ
  u = universe i

  abbrev T : List ℕ
  T = times i

  u_is : p.universe ≡ u
  u_is = opened.universe_is i ok p ep

  m_is : p.num_pushed ≡ length T
  m_is = selecting.pushed_is i ok p ep

  abbrev c : Bool
  c = p.rank

  -- ---- what the header says

  pub len_is : value p.num_pushed ≡ asked i Len
  unfolding ask
  len_is = ap value m_is

  pub empty_is : value (flag (eqb p.num_pushed 0)) ≡ asked i IsEmpty
  unfolding ask
  empty_is = ap (λ (k : ℕ). value (flag (eqb k 0))) m_is

  pub universe_is : value p.universe ≡ asked i Universe
  unfolding ask
  universe_is = ap value u_is

  pub has_rank_is : value (flag p.rank) ≡ asked i HasRank
  unfolding ask
  has_rank_is = ap (λ (b : Bool). value (flag b)) (opened.rank_is i ok p ep)

  -- ---- gaps

  module _ (k : ℕ) where
    pub no_gap : p.num_pushed ≤ k → none ≡ asked i (Delta k)
    unfolding ask gap
    no_gap h = sym (no_of (ltb k (length T)) _ none (le-ltb k (length T) (omega (arith, m_is))))

    pub first_gap : k < p.num_pushed → k ≡ 0 → (x : ℕ) → x ≡ get_or T k 0 → value x ≡ asked i (Delta k)
    unfolding ask gap
    first_gap h z x e =
        let d : (y : ℕ) → y - 0 ≡ y = λ y. omega arith in
        ap value (e ∙ sym (d (get_or T k 0)) ∙ ap (λ (j : ℕ). get_or T k 0 - get_or (0 ∷ T) j 0) (sym z)) ∙ sym (yes_of (ltb k (length T)) _ none (lt-ltb k (length T) (omega (arith, m_is))))

    before_is : (j : ℕ) → (j ≡ 0 → ⊥) → get_or T (j - 1) 0 ≡ get_or (0 ∷ T) j 0
    before_is zero z = absurd (z refl)
    before_is (suc j) z = ap (λ (a : ℕ). get_or T a 0) (let d : suc j - 1 ≡ j = omega arith in d)

    pub next_gap : k < p.num_pushed → (k ≡ 0 → ⊥) → (x y : ℕ) → x ≡ get_or T k 0 → y ≡ get_or T (k - 1) 0 → value (x - y) ≡ asked i (Delta k)
    unfolding ask gap
    next_gap h z x y ex ey =
        ap value (ap₂ (λ (a b : ℕ). a - b) ex (ey ∙ before_is k z)) ∙ sym (yes_of (ltb k (length T)) _ none (lt-ltb k (length T) (omega (arith, m_is))))

    pub gap-fits : k < p.num_pushed → (k ≡ 0 → ⊥) → (x y : ℕ) → x ≡ get_or T k 0 → y ≡ get_or T (k - 1) 0 → y ≤ x
    gap-fits h z x y ex ey =
        let a = m_is in
        let d : k - 1 + 1 ≡ k = omega arith in
        let r : get_or T (k - 1) 0 ≤ get_or T k 0 = subst (λ (j : ℕ). get_or T (k - 1) 0 ≤ get_or T j 0) d (rising_le u T (k - 1) (opened.rises i ok) (omega arith)) in
        omega arith

  -- ---- rank

  module _ (v : ℕ) where
    rank_by : {a : Answer} → ask u 0 c T (Rank v) ≡ a → a ≡ asked i (Rank v)
    unfolding ask
    rank_by e = sym e ∙ ap (λ (b : Bool). cond (ltb u v) none (cond (eqb v u) (value (length T)) (cond (not b) (refused 8) (value (below v T))))) (opened.rank_is i ok p ep)

    pub rank_past : p.universe < v → none ≡ asked i (Rank v)
    unfolding ask
    rank_past h = rank_by (yes_of (ltb u v) none _ (lt-ltb u v (omega (arith, u_is))))

    module _ (h : v ≤ p.universe) where
      upto : ltb u v ≡ false
      upto = le-ltb u v (omega (arith, u_is))

      pub rank_at : v ≡ p.universe → value p.num_pushed ≡ asked i (Rank v)
      unfolding ask
      rank_at e = ap value m_is ∙ rank_by (no_of (ltb u v) none _ upto ∙ yes_of (eqb v u) _ _ (eq-eqb v u (e ∙ u_is)))

      module _ (g : v ≡ p.universe → ⊥) where
        other : eqb v u ≡ false
        other = ne_eqb v u (λ e. g (e ∙ sym u_is))

        pub rank_8 : not p.rank ≡ true → refused 8 ≡ asked i (Rank v)
        unfolding ask
        rank_8 e = rank_by (no_of (ltb u v) none _ upto ∙ no_of (eqb v u) _ _ other ∙ yes_of (not c) _ _ e)

        pub rank_some : not p.rank ≡ false → (x : ℕ) → x ≡ below v T → value x ≡ asked i (Rank v)
        unfolding ask
        rank_some e x ex = ap value ex ∙ rank_by (no_of (ltb u v) none _ upto ∙ no_of (eqb v u) _ _ other ∙ no_of (not c) _ _ e)

  -- ---- neighbours

  -- as many ones as values are below w stand before its place
  pub behind : (w : ℕ) → w ≤ p.universe → (k : ℕ) → k ≡ below w T → Behind i p k (w / 2 ^ p.low_len + k)
  behind w h k e =
      record {
        opened = record { ok = ok; parts = ep };
        before = ap (λ (j : ℕ). count (bit_at (high_part i p)) (w / 2 ^ p.low_len + j)) e ∙ opened.count_rank i ok p ep w h ∙ sym e;
        upto = le_of_lt (opened.within i ok p ep w k h (let a = below-law.below_le u w T in omega arith));
      }

  -- the last value
  pub no_last : p.num_pushed ≡ 0 → none ≡ nth T (length T - 1)
  unfolding nth
  no_last z = sym (no_of (ltb (length T - 1) (length T)) _ none (le-ltb (length T - 1) (length T) (omega (arith, m_is))))

  pub is_last : (a : Answer) → a ≡ asked i (Select (p.num_pushed - 1)) → a ≡ nth T (length T - 1)
  unfolding ask
  is_last a e = e ∙ ap (λ (k : ℕ). nth T (k - 1)) m_is

  -- the last value below t, by how many there are
  module _ (t : ℕ) (some : 0 < t) (k : ℕ) (ek : k ≡ below t T) where
    count_is : below (suc (t - 1)) T ≡ k
    count_is = let d : suc (t - 1) ≡ t = omega (arith, some) in ap (λ (w : ℕ). below w T) d ∙ sym ek

    pub last_below_none : k ≡ 0 → none ≡ greatest (t - 1) T
    last_below_none z = sym (below-law.greatest_none u (t - 1) T (opened.rises i ok) (count_is ∙ z))

    pub last_below_some : (k ≡ 0 → ⊥) → (x : ℕ) → x ≡ get_or T (k - 1) 0 → value x ≡ greatest (t - 1) T
    last_below_some z x ex =
        let d : k ≡ suc (k - 1) = omega (arith, z) in
        ap value ex ∙ sym (below-law.greatest_some u (t - 1) T (opened.rises i ok) (k - 1) (count_is ∙ d))

  module _ (v : ℕ) where
    predecessor_by : {a : Answer} → ask u 0 c T (Predecessor v) ≡ a → a ≡ asked i (Predecessor v)
    unfolding ask
    predecessor_by e = sym e ∙ ap (λ (b : Bool). cond (not b && ltb (suc v) u) (refused 8) (greatest v T)) (opened.rank_is i ok p ep)

    -- no time is above v, from the last number below the universe on
    pub predecessor_last : p.universe ≤ suc v → (a : Answer) → a ≡ nth T (length T - 1) → a ≡ asked i (Predecessor v)
    unfolding ask nth
    predecessor_last h a ea =
        ea ∙ last_of (length T) refl
        ∙ predecessor_by (no_of (not c && ltb (suc v) u) (refused 8) _ (ap (λ (b : Bool). not c && b) (le-ltb (suc v) u (omega (arith, u_is, h))) ∙ and_false (not c)))
      where
        and_false : (b : Bool) → (b && false) ≡ false
        and_false true = refl
        and_false false = refl

        all : below (suc v) T ≡ length T
        all = below-law.below_is u (suc v) T (opened.rises i ok) (length T) (le_refl (length T)) (λ g. let q = rising_lt u T (length T - 1) (opened.rises i ok) (omega arith) in omega (arith, u_is, h)) (λ g. absurd (omega arith))

        last_of : (m : ℕ) → length T ≡ m → cond (ltb (length T - 1) (length T)) (value (get_or T (length T - 1) 0)) none ≡ greatest v T
        last_of zero q = no_of (ltb (length T - 1) (length T)) _ none (le-ltb (length T - 1) (length T) (omega arith)) ∙ sym (below-law.greatest_none u v T (opened.rises i ok) (all ∙ q))
        last_of (suc k) q =
            let d : length T - 1 ≡ k = omega arith in
            yes_of (ltb (length T - 1) (length T)) _ none (lt-ltb (length T - 1) (length T) (omega arith)) ∙ ap (λ (j : ℕ). value (get_or T j 0)) d
            ∙ sym (below-law.greatest_some u v T (opened.rises i ok) k (all ∙ q))

    pub predecessor_8 : suc v < p.universe → not p.rank ≡ true → refused 8 ≡ asked i (Predecessor v)
    unfolding ask
    predecessor_8 h e = predecessor_by (yes_of (not c && ltb (suc v) u) (refused 8) _ (ap₂ (λ (a b : Bool). a && b) e (lt-ltb (suc v) u (omega (arith, u_is)))))

    pub predecessor_is : not p.rank ≡ false → (t : ℕ) → t ≡ v + 1 → (a : Answer) → a ≡ greatest (t - 1) T → a ≡ asked i (Predecessor v)
    unfolding ask
    predecessor_is e t et a ea =
        let d : t - 1 ≡ v = omega (arith, et) in
        ea ∙ ap (λ (w : ℕ). greatest w T) d ∙ predecessor_by (no_of (not c && ltb (suc v) u) (refused 8) _ (ap (λ (b : Bool). b && ltb (suc v) u) e))

    successor_by : {a : Answer} → ask u 0 c T (Successor v) ≡ a → a ≡ asked i (Successor v)
    unfolding ask
    successor_by e = sym e ∙ ap (λ (b : Bool). cond (leb u v) none (cond (not b) (refused 8) (smallest v T))) (opened.rank_is i ok p ep)

    pub successor_past : p.universe ≤ v → none ≡ asked i (Successor v)
    unfolding ask
    successor_past h = successor_by (yes_of (leb u v) none _ (le-leb u v (omega (arith, u_is))))

    module _ (h : v < p.universe) where
      within : leb u v ≡ false
      within = lt-leb u v (omega (arith, u_is))

      pub successor_8 : not p.rank ≡ true → refused 8 ≡ asked i (Successor v)
      unfolding ask
      successor_8 e = successor_by (no_of (leb u v) none _ within ∙ yes_of (not c) (refused 8) _ e)

      successor_is : not p.rank ≡ false → (a : Answer) → a ≡ smallest v T → a ≡ asked i (Successor v)
      unfolding ask
      successor_is e a ea = ea ∙ successor_by (no_of (leb u v) none _ within ∙ no_of (not c) (refused 8) _ e)

      module _ (e : not p.rank ≡ false) (k : ℕ) (ek : k ≡ below v T) where
        pub successor_none : p.num_pushed ≤ k → none ≡ asked i (Successor v)
        successor_none q = successor_is e none (sym (below-law.smallest_none u v T (opened.rises i ok) (omega (arith, m_is))))

        pub successor_some : k < p.num_pushed → (x : ℕ) → x ≡ get_or T k 0 → value x ≡ asked i (Successor v)
        successor_some q x ex = successor_is e (value x) (ap value (ex ∙ ap (λ (j : ℕ). get_or T j 0) ek) ∙ sym (below-law.smallest_some u v T (opened.rises i ok) (omega (arith, m_is))))
