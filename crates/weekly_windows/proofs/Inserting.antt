-- The windows are put in order: one joins those before it in one pass, and all of them one after the other. o are the words before the pass. Assumes nothing.
use mathlib.Core.Path.{◌≡◌, refl, sym, ap, ap₂, ◌∙◌, subst}
use mathlib.Core.List.{List, [], ◌∷◌, ◌++◌, append_assoc}
use mathlib.Core.Bool.{true}
use Rattle.std.proofs.Common.{Option, Some, None}
use Prim.Native.Nat.{ℕ, suc, ◌+◌, ◌%◌, ◌≤◌, ◌<◌, min, max}
use native.Mathlib.Nat.{le_refl, lt_of_not-le, add-zero}
use native.Mathlib.Decide.{dec_lt}
use native.Mathlib.Omega.{arith}
use borrow.Author.Tests.{lt-ltb, le-ltb}
use lib.ListN.{length, get_or, take, drop, set, length-set, drop_of_length-le}
use lib.Seq.{length-take-le, get_or-take, get_or-drop, drop-drop, take-set-le, get_or-set_same}
use Rattle.elias_fano_words.specs.Times.{rising}
use Rattle.elias_fano_words.proofs.Rising.{rising_none}
use Rattle.weekly_windows.specs.declared.order.Met.{Met}
use Rattle.weekly_windows.specs.Windows.{week, in_form, are_windows}
use Rattle.weekly_windows.specs.Ordering.{met, met_of, inserted, joined, Ordered}
use Rattle.weekly_windows.proofs.Joining.{rising-inserted}
use Rattle.weekly_windows.proofs.Pairs.{drop-two, take_put, drop-put, form_first, form_even, few_windows}

-- ---- two windows that meet

-- the words of the window that is done with
abbrev words_of : Option (ℕ × ℕ) → List ℕ
words_of None = []
words_of (Some w) = w.0 ∷ w.1 ∷ []

-- what is done with, and what goes on
abbrev Meets : ℕ → ℕ → ℕ → ℕ → Met → Type 0
Meets x y c d m = (ws : List ℕ) → words_of m.done ++ inserted m.x m.y ws ≡ inserted x y (c ∷ d ∷ ws)

module _ (x y c d : ℕ) where
  pub met-before : d < x → met (Some (c, d)) x y ≡ met_of x y c d
  unfolding met_of
  met-before h = sym (simp (lt-ltb d x h))

  pub met-after : x ≤ d → y < c → met (Some (x, y)) c d ≡ met_of x y c d
  unfolding met_of
  met-after h k = sym (simp (le-ltb d x h, lt-ltb y c k))

  pub met-joined : x ≤ d → c ≤ y → (p q : ℕ) → p ≡ min x c → q ≡ max y d → met None p q ≡ met_of x y c d
  unfolding met_of
  met-joined h k p q e f = ap₂ (λ (i j : ℕ). met None i j) e f ∙ sym (simp (le-ltb d x h, le-ltb y c k))

  meets : Meets x y c d (met_of x y c d)
  unfolding inserted
  meets = go (dec_lt d x) (dec_lt y c)
    where
      go : Dec (d < x) → Dec (y < c) → Meets x y c d (met_of x y c d)
      go (yes h) k = subst (Meets x y c d) (met-before h) (λ ws. sym (simp (lt-ltb d x h)))
      go (no h) (yes k) = let l : x ≤ d = omega (arith, lt_of_not-le h) in subst (Meets x y c d) (met-after l k) (λ ws. sym (simp (le-ltb d x l, lt-ltb y c k)))
      go (no h) (no k) =
          let l : x ≤ d = omega (arith, lt_of_not-le h) in
          let m : c ≤ y = omega (arith, lt_of_not-le k) in
          subst (Meets x y c d) (met-joined l m _ _ refl refl) (λ ws. sym (simp (le-ltb d x l, le-ltb y c m)))

-- ---- one pass

-- what is written, and the rest of the windows with the window that goes on, are the windows with the new one
pub record Inserts (o : List ℕ) (len a b : ℕ) (cuts : List ℕ) (x y n i : ℕ) : Type 0 where
  pub upto : i ≤ len
  pub even : i % 2 ≡ 0
  pub pairs : n % 2 ≡ 0
  pub behind : n ≤ i
  pub long : length cuts ≡ 65
  pub rest : drop i cuts ≡ drop i o
  pub same : take n cuts ++ inserted x y (drop i (take len o)) ≡ inserted a b (take len o)

-- under other names
pub renamed : (o : List ℕ) (len a b : ℕ) (cuts cuts' : List ℕ) (x y n n' i i' : ℕ) → cuts' ≡ cuts → n' ≡ n → i ≡ i' → Inserts o len a b cuts x y n i → Inserts o len a b cuts' x y n' i'
renamed o len a b cuts cuts' x y n n' i i' p q r s =
    subst (Inserts o len a b cuts' x y n') r (subst (λ (k : ℕ). Inserts o len a b cuts' x y k i) (sym q) (subst (λ (l : List ℕ). Inserts o len a b l x y n i) (sym p) s))

module _ (o : List ℕ) (len a b : ℕ) (long : length o ≡ 65) (even : len % 2 ≡ 0) (room : len ≤ 62) where
  module _ (cuts : List ℕ) (x y n i : ℕ) (s : Inserts o len a b cuts x y n i) where
    -- a word that is not read yet is as it was
    unread : (k : ℕ) → get_or cuts (i + k) 0 ≡ get_or o (i + k) 0
    unread k = sym (get_or-drop i cuts k 0) ∙ ap (λ (l : List ℕ). get_or l k 0) s.rest ∙ get_or-drop i o k 0

    unread₀ : get_or cuts i 0 ≡ get_or o i 0
    unread₀ = ap (λ (k : ℕ). get_or cuts k 0) (sym (add-zero i)) ∙ unread 0 ∙ ap (λ (k : ℕ). get_or o k 0) (add-zero i)

    after : drop (i + 2) cuts ≡ drop (i + 2) o
    after = sym (drop-drop 2 i cuts) ∙ ap (drop 2) s.rest ∙ drop-drop 2 i o

    module _ (h : i < len) (m : Met) (e : m ≡ met_of x y (get_or cuts i 0) (get_or cuts (i + 1) 0)) where
      -- what is done with, and the rest with what goes on
      met_same : words_of m.done ++ inserted m.x m.y (drop (i + 2) (take len o)) ≡ inserted x y (drop i (take len o))
      met_same =
          let L : List ℕ = take len o in
          let c = get_or cuts i 0 in
          let d = get_or cuts (i + 1) 0 in
          let f : Meets x y c d m = subst (Meets x y c d) (sym e) (meets x y c d) in
          let i₀ = s.even in
          let ln = length-take-le len o (omega arith) in
          let ec : get_or L i 0 ≡ c = get_or-take len o i 0 h ∙ sym (unread₀) in
          let ed : get_or L (i + 1) 0 ≡ d = get_or-take len o (i + 1) 0 (omega arith) ∙ sym (unread 1) in
          f (drop (i + 2) L) ∙ ap₂ (λ (p q : ℕ). inserted x y (p ∷ q ∷ drop (i + 2) L)) (sym ec) (sym ed) ∙ ap (inserted x y) (sym (drop-two L i (omega arith)))

      pub pair_done : (p q : ℕ) → m.done ≡ Some (p, q) → Inserts o len a b (set (set cuts n p) (n + 1) q) m.x m.y (n + 2) (i + 2)
      pair_done p q g =
          let i₀ = s.even in
          let b₀ = s.behind in
          let n₀ = s.pairs in
          let l₀ = s.long in
          let D : List ℕ = inserted m.x m.y (drop (i + 2) (take len o)) in
          record {
            upto = omega arith;
            even = omega arith;
            pairs = omega arith;
            behind = omega arith;
            long = length-set (set cuts n p) (n + 1) q ∙ length-set cuts n p ∙ s.long;
            rest = drop-put cuts n p q (omega arith) i s.behind ∙ after;
            same =
                ap (λ (r : List ℕ). r ++ D) (take_put cuts n p q (omega arith) 2 (le_refl 2))
                ∙ append_assoc (take n cuts) (p ∷ q ∷ []) D
                ∙ ap (λ (r : List ℕ). take n cuts ++ r) (ap (λ (w : Option (ℕ × ℕ)). words_of w ++ D) (sym g) ∙ met_same)
                ∙ s.same;
          }

      pub pair_joined : m.done ≡ None → Inserts o len a b cuts m.x m.y n (i + 2)
      pair_joined g =
          let i₀ = s.even in
          let b₀ = s.behind in
          let D : List ℕ = inserted m.x m.y (drop (i + 2) (take len o)) in
          record {
            upto = omega arith;
            even = omega arith;
            pairs = s.pairs;
            behind = omega arith;
            long = s.long;
            rest = after;
            same = ap (λ (r : List ℕ). take n cuts ++ r) (ap (λ (w : Option (ℕ × ℕ)). words_of w ++ D) (sym g) ∙ met_same) ∙ s.same;
          }

    pub inserted_long : length (set (set cuts n x) (n + 1) y) ≡ 65
    inserted_long = length-set (set cuts n x) (n + 1) y ∙ length-set cuts n x ∙ s.long

    -- the window that is left is written last
    pub all_inserted : len ≤ i → take (n + 2) (set (set cuts n x) (n + 1) y) ≡ inserted a b (take len o)
    unfolding inserted
    all_inserted h =
        let l₀ = s.long in
        let b₀ = s.behind in
        let u₀ = s.upto in
        let ln = length-take-le len o (omega arith) in
        take_put cuts n x y (omega arith) 2 (le_refl 2)
        ∙ ap (λ (r : List ℕ). take n cuts ++ inserted x y r) (sym (drop_of_length-le (take len o) {i = i} (omega arith)))
        ∙ s.same

-- ---- all windows

-- the first i words are in order
pub record Orders (ws cuts : List ℕ) (n i : ℕ) : Type 0 where
  pub upto : i ≤ length ws
  pub even : i % 2 ≡ 0
  pub pairs : n % 2 ≡ 0
  pub behind : n ≤ i
  pub long : length cuts ≡ 65
  pub form : in_form (drop i ws) ≡ true
  pub rises : rising (suc week) 0 (take n cuts) ≡ true
  pub same : joined (take n cuts) (drop i ws) ≡ joined [] ws

module _ (ws : List ℕ) (ok : are_windows ws ≡ true) where
  few : length ws ≤ 64
  few = (few_windows ws ok).0

  pub halves : length ws % 2 ≡ 0
  halves = form_even ws (few_windows ws ok).1

  pub none_ordered : (cuts : List ℕ) → length cuts ≡ 65 → Orders ws cuts 0 0
  none_ordered cuts l = record { upto = omega arith; even = refl; pairs = refl; behind = le_refl 0; long = l; form = (few_windows ws ok).1; rises = rising_none (suc week) 0; same = refl }

  module _ (cuts : List ℕ) (n i : ℕ) (s : Orders ws cuts n i) where
    pub one_left : i < length ws → (i + 1 < length ws) × (n % 2 ≡ 0) × (n ≤ 62)
    one_left h = let e = s.even in let l = halves in let f = few in let b = s.behind in (omega arith, s.pairs, omega arith)

    pub room-left : n ≤ 64
    room-left = let b = s.behind in let u = s.upto in let f = few in omega arith

    pub one_ordered : i < length ws → (o : List ℕ) (r : ℕ) → length o ≡ 65 → r % 2 ≡ 0 → r ≤ n + 2 → take r o ≡ inserted (get_or ws i 0) (get_or ws (i + 1) 0) (take n cuts) → Orders ws o r (i + 2)
    unfolding joined
    one_ordered h o r l p q e =
        let g = one_left h in
        let e₀ = s.even in
        let b₀ = s.behind in
        let a = get_or ws i 0 in
        let b = get_or ws (i + 1) 0 in
        let t = drop-two ws i g.0 in
        let f = form_first a b (drop (i + 2) ws) (sym (ap in_form t) ∙ s.form) in
        record {
          upto = omega (arith, g.0);
          even = omega arith;
          pairs = p;
          behind = omega arith;
          long = l;
          form = f.2;
          rises = ap (rising (suc week) 0) e ∙ rising-inserted (suc week) 0 a b (take n cuts) s.rises (omega arith) (omega (arith, f.0)) (omega (arith, f.1));
          same = ap (λ (k : List ℕ). joined k (drop (i + 2) ws)) e ∙ sym (ap (joined (take n cuts)) t) ∙ s.same;
        }

    pub all_ordered : length ws ≤ i → Ordered (set cuts n week) n × (take n (set cuts n week) ≡ joined [] ws)
    unfolding joined
    all_ordered h =
        let u = s.upto in
        let b = s.behind in
        let f = few in
        let l = s.long in
        let t = take-set-le n cuts n week (le_refl n) in (
          record {
            few = room-left;
            even = s.pairs;
            long = length-set cuts n week ∙ l;
            rises = ap (rising (suc week) 0) t ∙ s.rises;
            top = get_or-set_same cuts n week 0 (omega arith);
          },
          t ∙ ap (joined (take n cuts)) (sym (drop_of_length-le ws h)) ∙ s.same,
        )
