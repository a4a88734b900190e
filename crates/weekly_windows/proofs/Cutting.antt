-- The cuts: how many are at or below a second, found from some on; that it is in the windows if that number is odd; and where the search begins in each part of the week. Assumes nothing.
use mathlib.Core.Path.{◌≡◌, sym, ap, ◌∙◌, subst, subst₂}
use mathlib.Core.List.{List, [], ◌∷◌}
use mathlib.Core.Bool.{Bool, true, false, ◌&&◌, ◌||◌, and-false}
use Prim.Native.Nat.{ℕ, zero, suc, ◌+◌, ◌*◌, ◌%◌, ◌≤◌, ◌<◌, suc-le-suc, zero-le}
use native.Mathlib.Nat.{le_trans, lt_of_lt_of_le}
use native.Mathlib.Decide.{ℕ_discrete}
use native.Mathlib.Omega.{arith}
use borrow.Author.Tests.{lt-ltb, le-ltb, le-leb, lt-leb}
use lib.Dec.{leb, ltb}
use lib.ListN.{length, get_or, take, set, length-set}
use lib.Seq.{length-take-le, get_or-take, get_or-set_same, get_or-set_other}
use Rattle.broadword.specs.Fields.{flag}
use Rattle.elias_fano_walk.proofs.Halved.{not_falling}
use Rattle.weekly_windows.specs.Windows.{week, between, in_some}
use Rattle.weekly_windows.specs.Ordering.{Ordered, AllUpto, CutsUpto, PartStarts}

-- ---- how many are at or below r

module _ (cuts : List ℕ) (n r : ℕ) (o : Ordered cuts n) (h : r < week) where
  -- the cuts do not fall
  pub cuts_end : (k : ℕ) → k ≤ n → AllUpto cuts r k → r < get_or cuts k 0 → CutsUpto cuts n r k
  cuts_end k l f g = record { few = l; before = f; after = λ j m i. lt_of_lt_of_le g (climbs j m i) }
    where
      climbs : (j : ℕ) → k ≤ j → j < n → get_or cuts k 0 ≤ get_or cuts j 0
      climbs j m i =
          let q = length-take-le n cuts (let a = o.long in let b = o.few in omega arith) in
          subst₂ ◌≤◌ (get_or-take n cuts k 0 (omega arith)) (get_or-take n cuts j 0 i) (not_falling (suc week) (take n cuts) o.rises k j m (omega arith))

-- ---- whether r is in a window

module _ (a b r : ℕ) where
  before_window : r < a → between a b r ≡ false
  before_window h = ap (λ (t : Bool). t && ltb r b) (lt-leb a r h)

  after_window : b ≤ r → between a b r ≡ false
  after_window h = ap (λ (t : Bool). leb a r && t) (le-ltb r b h) ∙ and-false (leb a r)

  in_window : a ≤ r → r < b → between a b r ≡ true
  in_window h k = simp (le-leb a r h, lt-ltb r b k)

-- the first k words are at or below r, and no others
odd_inside :
    (ws : List ℕ) (k r : ℕ)
    → length ws % 2 ≡ 0 → k ≤ length ws → ((j : ℕ) → j < k → get_or ws j 0 ≤ r) → ((j : ℕ) → k ≤ j → j < length ws → r < get_or ws j 0)
    → k % 2 ≡ flag (in_some ws r)
unfolding in_some
odd_inside [] k r e h f g = omega arith
odd_inside (a ∷ []) k r e h f g = absurd (omega arith)
odd_inside (a ∷ b ∷ ws) zero r e h f g =
    odd_inside ws zero r (omega arith) zero-le (λ j l. absurd (omega arith)) (λ j l m. g (suc (suc j)) zero-le (suc-le-suc (suc-le-suc m)))
    ∙ ap (λ (t : Bool). flag (t || in_some ws r)) (sym (before_window a b r (g 0 zero-le (omega arith))))
odd_inside (a ∷ b ∷ ws) (suc zero) r e h f g = ap (λ (t : Bool). flag (t || in_some ws r)) (sym (in_window a b r (f 0 (omega arith)) (g 1 (omega arith) (omega arith))))
odd_inside (a ∷ b ∷ ws) (suc (suc k)) r e h f g =
    (let m : suc (suc k) % 2 ≡ k % 2 = omega arith in m)
    ∙ odd_inside ws k r (omega arith) (omega arith) (λ j l. f (suc (suc j)) (suc-le-suc (suc-le-suc l))) (λ j l m. g (suc (suc j)) (suc-le-suc (suc-le-suc l)) (suc-le-suc (suc-le-suc m)))
    ∙ ap (λ (t : Bool). flag (t || in_some ws r)) (sym (after_window a b r (f 1 (omega arith))))

-- the same of the cuts: so many of them are at or below r
pub upto_inside : (cuts : List ℕ) (n r k : ℕ) → Ordered cuts n → CutsUpto cuts n r k → k % 2 ≡ flag (in_some (take n cuts) r)
upto_inside cuts n r k o u =
    let q = length-take-le n cuts (let a = o.long in let b = o.few in omega arith) in
    let e = o.even in
    odd_inside (take n cuts) k r (ap (λ (m : ℕ). m % 2) q ∙ e) (let l = u.few in omega arith)
    (λ j h. subst (λ (x : ℕ). x ≤ r) (sym (get_or-take n cuts j 0 (let l = u.few in omega arith))) (u.before j h))
    (λ j h l. subst (λ (x : ℕ). r < x) (sym (get_or-take n cuts j 0 (omega arith))) (u.after j h (omega arith)))

-- ---- the parts of the week

-- where the search in the part q begins
abbrev StartAt : List ℕ → ℕ → List ℕ → ℕ → Type 0
StartAt cuts n first q = (get_or first q 0 ≤ n) × AllUpto cuts (q * 4096) (get_or first q 0)

-- the first q parts have theirs; k cuts are at or below the end of the last of them, at least
pub record Started (cuts : List ℕ) (n : ℕ) (first : List ℕ) (k q : ℕ) : Type 0 where
  pub upto : q ≤ 148
  pub long : length first ≡ 148
  pub few : k ≤ n
  pub passed : AllUpto cuts (q * 4096) k
  pub starts : (p : ℕ) → p < q → StartAt cuts n first p

module _ (cuts : List ℕ) (n : ℕ) where
  pub none_started : (first : List ℕ) → length first ≡ 148 → Started cuts n first 0 0
  none_started first l = record { upto = omega arith; long = l; few = zero-le; passed = λ j h. absurd (omega arith); starts = λ p h. absurd (omega arith) }

  pub one_started : (first : List ℕ) (k q : ℕ) → Started cuts n first k q → q < 148 → (m : ℕ) → CutsUpto cuts n (q * 4096) m → Started cuts n (set first q m) m (q + 1)
  one_started first k q s h m u = record {
    upto = omega arith;
    long = length-set first q m ∙ s.long;
    few = u.few;
    passed = λ j l. le_trans (u.before j l) (omega arith);
    starts = λ p l. go p l (ℕ_discrete p q);
  }
    where
      at : get_or (set first q m) q 0 ≡ m
      at = get_or-set_same first q m 0 (let l = s.long in omega arith)

      go : (p : ℕ) → p < q + 1 → Dec (p ≡ q) → StartAt cuts n (set first q m) p
      go p l (yes e) = subst (StartAt cuts n (set first q m)) (sym e) (subst (λ (x : ℕ). (x ≤ n) × AllUpto cuts (q * 4096) x) (sym at) (u.few, u.before))
      go p l (no e) = subst (λ (x : ℕ). (x ≤ n) × AllUpto cuts (p * 4096) x) (sym (get_or-set_other first q p m 0 e)) (s.starts p (omega arith))

  pub all_started : (first : List ℕ) (k q : ℕ) → Started cuts n first k q → 148 ≤ q → PartStarts cuts n first
  all_started first k q s h p l = s.starts p (omega arith)
