-- Search: the scan from the low end, the first value that is not below another, and the answers. T is the list of times. Assumes nothing.
use mathlib.Core.Path.{◌≡◌, refl, sym, ap, ap₂, ◌∙◌, subst}
use mathlib.Core.List.{List, ◌∷◌}
use mathlib.Core.Bool.{true}
use Prim.Native.Nat.{ℕ, zero, suc, ◌+◌, ◌-◌, ◌≤◌, ◌<◌}
use native.Mathlib.Nat.{le_refl, lt_of_not-le, lt_of_lt_of_le}
use native.Mathlib.Numerals.{add-one}
use native.Mathlib.Decide.{dec_lt, ℕ_discrete}
use native.Mathlib.Omega.{arith}
use borrow.Author.Tests.{le-ltb, lt-ltb, le-leb, lt-leb, eq-eqb, ne_eqb}
use lib.ListN.{length, get_or, take, drop}
use lib.Seq.{drop-cons}
use Rattle.errors.specs.Answer.{Answer, value, none, refused}
use Rattle.elias_fano_words.specs.Times.{rising}
use Rattle.elias_fano.specs.declared.image.Parts.{Parts}
use Rattle.elias_fano.specs.Accept.{times, accepted, parts_of}
use Rattle.elias_fano.specs.Ask.{Binsearch, BinsearchRange, first_index, searched, ask, asked}
use Rattle.elias_fano.proofs.Images as images
use Rattle.elias_fano.proofs.Selecting as selecting
use Rattle.elias_fano_walk.specs.declared.search.Section.{Section}
use Rattle.elias_fano_walk.specs.declared.walk.Walk.{Walk}
use Rattle.elias_fano_walk.specs.Searching.{Range, ScanSection, AllBelow, FirstFrom}
use Rattle.elias_fano_walk.specs.Walking.{WalkOver}
use Rattle.elias_fano_walk.proofs.Halved.{not_falling, in_list}

-- ---- the first from a number on

-- the first number from j on and below b with the time v
abbrev first_from : ℕ → List ℕ → ℕ → ℕ → Answer
first_from v T b j = first_index v j (take (b - j) (drop j T))

module _ (v : ℕ) (T : List ℕ) (b : ℕ) (up : b ≤ length T) where
  opens : (j : ℕ) → j < b → take (b - j) (drop j T) ≡ get_or T j 0 ∷ take (b - suc j) (drop (suc j) T)
  opens j h = ap₂ (λ (n : ℕ) (l : List ℕ). take n l) (let e : b - j ≡ suc (b - suc j) = omega arith in e) (drop-cons T j 0 (omega arith))

  first_here : (j : ℕ) → j < b → get_or T j 0 ≡ v → first_from v T b j ≡ value j
  unfolding first_index
  first_here j h e = ap (first_index v j) (opens j h) ∙ simp (eq-eqb (get_or T j 0) v e)

  first_on : (j : ℕ) → j < b → (get_or T j 0 ≡ v → ⊥) → first_from v T b j ≡ first_from v T b (j + 1)
  unfolding first_index
  first_on j h n = ap (first_index v j) (opens j h) ∙ simp (ne_eqb (get_or T j 0) v n, add-one j)

  first_end : (j : ℕ) → b ≤ j → first_from v T b j ≡ none
  unfolding first_index
  first_end j h = ap (λ (n : ℕ). first_index v j (take n (drop j T))) (let e : b - j ≡ 0 = omega arith in e)

  -- none before the number r is v, if all there are below v
  first_skip : (a r : ℕ) → a ≤ r → r ≤ b → ((j : ℕ) → j < r → a ≤ j → get_or T j 0 < v) → first_from v T b a ≡ first_from v T b r
  first_skip a r h k g = go (r - a) a (let e : a + (r - a) ≡ r = omega arith in e) (λ j l m. g j l m)
    where
      go : (d j : ℕ) → j + d ≡ r → ((i : ℕ) → i < r → j ≤ i → get_or T i 0 < v) → first_from v T b j ≡ first_from v T b r
      go zero j e f = ap (first_from v T b) (let q : j ≡ r = omega arith in q)
      go (suc d) j e f = first_on j (omega arith) (λ q. omega (arith, f j (omega arith) (le_refl j))) ∙ go d (j + 1) (omega arith) (λ i l m. f i l (omega arith))

  -- none is v, if all are above v
  past : (d j : ℕ) → b - j ≤ d → ((i : ℕ) → j ≤ i → i < b → v < get_or T i 0) → first_from v T b j ≡ none
  past zero j h g = first_end j (omega arith)
  past (suc d) j h g = go (past d (j + 1) (omega arith) (λ i l m. g i (omega arith) m)) (dec_lt j b)
    where
      go : first_from v T b (j + 1) ≡ none → Dec (j < b) → first_from v T b j ≡ none
      go ih (yes l) = first_on j l (λ e. omega (arith, g j (le_refl j) l)) ∙ ih
      go ih (no n) = first_end j (omega (arith, lt_of_not-le n))

  -- so is it past one above v, where times do not fall
  first_past : (u : ℕ) → rising u 0 T ≡ true → (j : ℕ) → v < get_or T j 0 → first_from v T b j ≡ none
  first_past u r j g = past (b - j) j (le_refl (b - j)) (λ i l m. lt_of_lt_of_le g (not_falling u T r j i l (omega arith)))

-- a shorter range gives the same, if all after it are above v
first_until : (v : ℕ) (T : List ℕ) (b e : ℕ) → b ≤ length T → e ≤ b → ((j : ℕ) → e ≤ j → j < b → v < get_or T j 0) → (d r : ℕ) → r + d ≡ e → first_from v T e r ≡ first_from v T b r
first_until v T b e up k g zero r h = first_end v T e (omega arith) r (omega arith) ∙ sym (past v T b up (b - r) r (le_refl (b - r)) (λ j l m. g j (omega arith) m))
first_until v T b e up k g (suc d) r h = go (first_until v T b e up k g d (r + 1) (omega arith)) (ℕ_discrete (get_or T r 0) v)
  where
    go : first_from v T e (r + 1) ≡ first_from v T b (r + 1) → Dec (get_or T r 0 ≡ v) → first_from v T e r ≡ first_from v T b r
    go ih (yes q) = first_here v T e (omega arith) r (omega arith) q ∙ sym (first_here v T b up r (omega arith) q)
    go ih (no q) = first_on v T e (omega arith) r (omega arith) q ∙ ih ∙ sym (first_on v T b up r (omega arith) q)

-- ---- the loop

-- the values from a on and below j are not v
pub record Scanning (i : List ℕ) (p : Parts) (v a b : ℕ) (w : Walk) (j : ℕ) : Type 0 where
  pub upto : j ≤ b
  pub walking : WalkOver i p w
  pub number : w.number ≡ j
  pub same : first_from v (times i) b a ≡ first_from v (times i) b j

module _ (i : List ℕ) (ok : accepted i ≡ true) (p : Parts) (ep : p ≡ parts_of i) (v a b : ℕ) (g : Range p a b) where
  up : b ≤ length (times i)
  up = in_list i ok p ep v a b g

  pub scan_begins : (w : Walk) → WalkOver i p w → w.number ≡ a → Scanning i p v a b w a
  scan_begins w h e = record { upto = omega (arith, g.some); walking = h; number = e; same = refl }

  module _ (w : Walk) (j : ℕ) (s : Scanning i p v a b w j) where
    pub scan_ends : b ≤ j → none ≡ first_from v (times i) b a
    scan_ends h = sym (s.same ∙ first_end v (times i) b up j h)

    module _ (l : j < b) (x : ℕ) (e : x ≡ get_or (times i) w.number 0) where
      at : x ≡ get_or (times i) j 0
      at = e ∙ ap (λ (n : ℕ). get_or (times i) n 0) s.number

      pub scan_finds : x ≡ v → value j ≡ first_from v (times i) b a
      scan_finds h = sym (s.same ∙ first_here v (times i) b up j l (sym at ∙ h))

      pub scan_stops : v < x → none ≡ first_from v (times i) b a
      scan_stops h = sym (s.same ∙ first_past v (times i) b up _ (images.is_fit i ok).rises j (subst (λ (y : ℕ). v < y) at h))

      pub scan_goes_on : (x ≡ v → ⊥) → (w' : Walk) → WalkOver i p w' → w'.number ≡ suc w.number → Scanning i p v a b w' (j + 1)
      scan_goes_on n w' h k = record {
        upto = omega arith;
        walking = h;
        number = let m = s.number in omega arith;
        same = s.same ∙ first_on v (times i) b up j l (λ q. n (at ∙ q));
      }

-- ---- the first that is not below v

-- the values before the walk are below v
pub record Skipping (i : List ℕ) (p : Parts) (v : ℕ) (w : Walk) : Type 0 where
  pub walking : WalkOver i p w
  pub upto : w.number ≤ p.num_pushed
  pub less : AllBelow (times i) v w.number

module _ (i : List ℕ) (ok : accepted i ≡ true) (p : Parts) (ep : p ≡ parts_of i) (v : ℕ) where
  -- there is no value after them
  pub skip_ends : (k : ℕ) → p.num_pushed ≤ k → k ≤ p.num_pushed → AllBelow (times i) v k → FirstFrom (times i) v k
  skip_ends k h l a = let e = selecting.pushed_is i ok p ep in record { upto = omega arith; less = a; first = λ m. absurd (omega arith) }

  module _ (w : Walk) (s : Skipping i p v w) (x : ℕ) (e : x ≡ get_or (times i) w.number 0) where
    pub skip_stops : v ≤ x → FirstFrom (times i) v w.number
    skip_stops h = record { upto = subst (λ (y : ℕ). w.number ≤ y) (selecting.pushed_is i ok p ep) s.upto; less = s.less; first = λ _. subst (λ (y : ℕ). v ≤ y) e h }

    pub skip_goes_on : x < v → w.number < p.num_pushed → (w' : Walk) → WalkOver i p w' → w'.number ≡ suc w.number → Skipping i p v w'
    skip_goes_on h l w' g k = record { walking = g; upto = omega arith; less = λ j m. go j m (ℕ_discrete j w.number) }
      where
        go : (j : ℕ) → j < w'.number → Dec (j ≡ w.number) → get_or (times i) j 0 < v
        go j m (yes q) = subst (λ (y : ℕ). y < v) (e ∙ ap (λ (n : ℕ). get_or (times i) n 0) (sym q)) h
        go j m (no q) = s.less j (omega arith)

-- ---- the answers

module _ (i : List ℕ) (ok : accepted i ≡ true) (p : Parts) (ep : p ≡ parts_of i) (v : ℕ) where
  pub search_empty : (a b : ℕ) → b ≤ a → none ≡ asked i (BinsearchRange a b v)
  unfolding ask searched
  search_empty a b h = sym (simp (le-leb b a h))

  pub search_refused : (a b : ℕ) → a < b → p.num_pushed < b → refused 9 ≡ asked i (BinsearchRange a b v)
  unfolding ask searched
  search_refused a b l h = sym (simp (lt-leb b a l, lt-ltb (length (times i)) b (subst (λ (y : ℕ). y < b) (selecting.pushed_is i ok p ep) h)))

  -- what is scanned in a section is what is searched
  pub search_found : (a b : ℕ) → Range p a b → (s : Section) → ScanSection i p a b v s → (x : Answer) → x ≡ first_from v (times i) s.end s.number → x ≡ asked i (BinsearchRange a b v)
  unfolding ask searched
  search_found a b g s t x q =
      let h = in_list i ok p ep v a b g in
      let r = t.start in
      q
      ∙ first_until v (times i) b s.end h t.upto t.above (s.end - s.number) s.number (omega (arith, t.some))
      ∙ sym (first_skip v (times i) b h a s.number r.from (omega (arith, r.upto)) r.less)
      ∙ sym (simp (lt-leb b a g.some, le-ltb (length (times i)) b h))

  -- the first of the range is it
  pub search_at : (a b : ℕ) → Range p a b → (x : ℕ) → x ≡ get_or (times i) a 0 → x ≡ v → value a ≡ asked i (BinsearchRange a b v)
  unfolding ask searched
  search_at a b g x e h =
      let l = in_list i ok p ep v a b g in
      sym (first_here v (times i) b l a g.some (sym e ∙ h)) ∙ sym (simp (lt-leb b a g.some, le-ltb (length (times i)) b l))

  pub search_all : (r : Answer) → r ≡ asked i (BinsearchRange 0 p.num_pushed v) → r ≡ asked i (Binsearch v)
  unfolding ask
  search_all r e = e ∙ ap (λ (n : ℕ). searched (times i) 0 n v) (selecting.pushed_is i ok p ep)
