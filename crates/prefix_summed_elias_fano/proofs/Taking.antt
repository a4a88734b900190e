-- The walk over the items: how it begins, what a step takes and leaves, and reading out. Assumes nothing.
use Rattle.std.specs.Prelude.{Ok, Err}
use mathlib.Core.Path.{◌≡◌, refl, sym, ap, ap₂, ◌∙◌, subst}
use mathlib.Core.List.{List, ◌∷◌, ◌++◌}
use mathlib.Core.Bool.{Bool, true, cond, ◌||◌}
use Prim.Native.Nat.{ℕ, zero, suc, ◌+◌, ◌-◌, ◌≤◌, ◌<◌, min}
use native.Mathlib.Nat.{add-zero}
use native.Mathlib.Numerals.{add-one}
use native.Mathlib.Omega.{arith}
use borrow.Author.Tests.{le-ltb, lt-ltb, eq-eqb, ne_eqb}
use lib.ListN.{length, get_or, take, drop, set, length-drop, length-set, get_or-eq_default}
use lib.Seq.{get_or-drop}
use Rattle.errors.specs.Answer.{value, none, refused, Outcome, leaves}
use Rattle.errors.specs.Refusal.{number_of}
use Rattle.errors.specs.declared.Refusal.{Refusal}
use Rattle.elias_fano.specs.declared.image.Parts.{Parts}
use Rattle.elias_fano.specs.Accept.{universe, times, accepted, parts_of, no_parts, unopened, open_of}
use Rattle.elias_fano.specs.Ask.{nth, read_out, filled}
use Rattle.elias_fano.proofs.Answers.{not_open}
use Rattle.elias_fano.proofs.Images as images
use Rattle.elias_fano.proofs.Selecting as selecting
use Rattle.elias_fano_walk.specs.declared.walk.Walk.{Walk}
use Rattle.elias_fano_walk.specs.Walking.{WalkOver, value_step_of}
use Rattle.elias_fano_walk.proofs.Reading as reading
use Rattle.prefix_summed_elias_fano.specs.Items.{askable, items_of, ItemsOver, StartsItems, read_items_of}
use Rattle.prefix_summed_elias_fano.specs.declared.walk.ItemPlace.{ItemPlace}
use Rattle.prefix_summed_elias_fano.specs.declared.walk.ItemWalk.{ItemWalk}
use Rattle.prefix_summed_elias_fano.proofs.Gaps as gaps

-- ---- the value before

module _ (T : List ℕ) where
  pub before_first : (k : ℕ) → k ≡ 0 → 0 ≡ get_or (0 ∷ T) k 0
  before_first k e = sym (ap (λ (j : ℕ). get_or (0 ∷ T) j 0) e)

  pub before-past : (k : ℕ) → length T < k → 0 ≡ get_or (0 ∷ T) k 0
  before-past k h = sym (get_or-eq_default (0 ∷ T) 0 h)

  pub before_next : (k v : ℕ) → (k ≡ 0 → ⊥) → v ≡ get_or T (k - 1) 0 → v ≡ get_or (0 ∷ T) k 0
  before_next zero v z e = absurd (z refl)
  before_next (suc k) v z e = e ∙ ap (λ (j : ℕ). get_or T j 0) (let d : suc k - 1 ≡ k = omega arith in d)

-- ---- the start

module _ (i : List ℕ) where
  pub over-accepted : accepted i ≡ true → (p : Parts) → p ≡ parts_of i → (k b : ℕ) (v : Walk) → WalkOver i p v → v.number ≡ k → b ≡ get_or (0 ∷ times i) k 0 → ItemsOver i p (record { before = b; values = v })
  over-accepted ok p ep k b v o e eb = record { many = selecting.pushed_is i ok p ep; ahead = λ h. record { ok = ok; parts = ep; walk = o; before = eb ∙ ap (λ (j : ℕ). get_or (0 ∷ times i) j 0) (sym e) } }

  over_none : length i ≡ 0 → (p : Parts) (w : ItemWalk) → p.num_pushed ≡ 0 → ItemsOver i p w
  over_none e p w z = record { many = z ∙ sym (ap length (images.no_times i e)); ahead = λ h. absurd (omega (arith, h, z)) }

  askable_none : length i ≡ 0 → askable i ≡ true
  unfolding askable
  askable_none e = ap (λ (b : Bool). b || accepted i) (eq-eqb (length i) 0 e)

  askable_some : (length i ≡ 0 → ⊥) → askable i ≡ accepted i
  unfolding askable
  askable_some h = ap (λ (b : Bool). b || accepted i) (ne_eqb (length i) 0 h)

  pub starts_none : length i ≡ 0 → (k : ℕ) (c : ItemPlace) → c.parts ≡ no_parts → c.walk.values.number ≡ k → StartsItems i k (Ok c)
  starts_none e k c z n = (askable_none e, over_none e c.parts c.walk (ap (λ (p : Parts). p.num_pushed) z), n, z ∙ sym (ap (λ (b : Bool). cond b no_parts (parts_of i)) (eq-eqb (length i) 0 e)))

  module _ (some : length i ≡ 0 → ⊥) where
    pub starts_opened : accepted i ≡ true → (k : ℕ) (c : ItemPlace) → ItemsOver i c.parts c.walk → c.walk.values.number ≡ k → c.parts ≡ parts_of i → StartsItems i k (Ok c)
    starts_opened ok k c o n e = (askable_some some ∙ ok, o, n, e ∙ sym (ap (λ (b : Bool). cond b no_parts (parts_of i)) (ne_eqb (length i) 0 some)))

    pub starts_refused : (x : Refusal) (k : ℕ) → unopened (number_of x) ≡ open_of i → StartsItems i k (Err x)
    starts_refused x k e = let d = not_open i (number_of x) e in (askable_some some ∙ d.0, d.1)

-- ---- a step

module _ (i : List ℕ) (p : Parts) (w : ItemWalk) (o : ItemsOver i p w) where
  abbrev k : ℕ
  k = w.values.number

  module _ (h : k < p.num_pushed) where
    inside : k < length (times i)
    inside = subst (λ (n : ℕ). k < n) o.many h

    pub fits : (v : ℕ) → v ≡ get_or (times i) k 0 → w.before ≤ v
    fits v e = let a = o.ahead h in let r = gaps.rises_from (universe i) 0 (times i) k (images.is_fit i a.ok).rises inside in omega (arith, a.before, e, r)

    pub item_is : (v : ℕ) → v ≡ get_or (times i) k 0 → v - w.before ≡ get_or (items_of i) k 0
    item_is v e = ap₂ (λ (x y : ℕ). x - y) e (o.ahead h).before ∙ sym (gaps.gap_at (times i) k inside)

    pub goes_on : (v : ℕ) → v ≡ get_or (times i) k 0 → (n : Walk) → WalkOver i p n → n.number ≡ suc k → ItemsOver i p (record { before = v; values = n })
    goes_on v e n a en = over-accepted i (o.ahead h).ok p (o.ahead h).parts (suc k) v n a en e

  many : p.num_pushed ≡ length (items_of i)
  many = o.many ∙ sym (gaps.length-gaps 0 (times i))

  pub stepped_none : p.num_pushed ≤ k → record { answer = none; number = k } ≡ value_step_of (items_of i) k
  unfolding value_step_of nth
  stepped_none h = sym (simp (le-ltb k (length (items_of i)) (subst (λ (y : ℕ). y ≤ k) many h)))

  pub stepped_some : (v m : ℕ) → k < p.num_pushed → m ≡ suc k → v ≡ get_or (items_of i) k 0 → record { answer = value v; number = m } ≡ value_step_of (items_of i) k
  unfolding value_step_of nth
  stepped_some v m h em e =
      ap₂ (λ (y z : ℕ). record { answer = value y; number = z }) e em ∙ sym (simp (lt-ltb k (length (items_of i)) (subst (λ (y : ℕ). k < y) many h)))

-- ---- reading out

-- d were the words, of which j are written, from the place k on
pub record ItemsWritten (i : List ℕ) (p : Parts) (k count : ℕ) (d out : List ℕ) (w : ItemWalk) (j : ℕ) : Type 0 where
  pub upto : j ≤ count
  pub over : ItemsOver i p w
  pub number : w.values.number ≡ k + j
  pub words : out ≡ take j (drop k (items_of i)) ++ drop j d
  pub long : length out ≡ length d

module _ (i : List ℕ) (p : Parts) (d : List ℕ) where
  pub none_written : (count : ℕ) (w : ItemWalk) → ItemsOver i p w → ItemsWritten i p w.values.number count d d w 0
  none_written count w o = record { upto = omega arith; over = o; number = sym (add-zero w.values.number); words = refl; long = refl }

  module _ (k count : ℕ) (few : count ≤ p.num_pushed - k) (room : count ≤ length d) (out : List ℕ) (w : ItemWalk) (j : ℕ) (s : ItemsWritten i p k count d out w j) (l : j < count) where
    pub one_left : w.values.number < p.num_pushed
    one_left = let e = s.number in omega arith

    pub one_written : (v : ℕ) (n : ItemWalk) → ItemsOver i p n → n.values.number ≡ suc w.values.number → v ≡ get_or (items_of i) w.values.number 0 → ItemsWritten i p k count d (set out j v) n (j + 1)
    one_written v n o en e =
        let G : List ℕ = items_of i in
        let f : count ≤ length G - k = let b = many i p w s.over in omega arith in
        let x : v ≡ get_or (drop k G) j 0 = e ∙ ap (λ (q : ℕ). get_or G q 0) s.number ∙ sym (get_or-drop k G j 0) in
        record {
          upto = omega arith;
          over = o;
          number = let a = s.number in omega arith;
          words = ap₂ (λ (r : List ℕ) (y : ℕ). set r j y) s.words x ∙ reading.one_more (drop k G) d j (let a = length-drop k G in omega arith) (omega arith) ∙ ap (λ (q : ℕ). take q (drop k G) ++ drop q d) (sym (add-one j));
          long = length-set out j v ∙ s.long;
        }

  pub all_written : (k count : ℕ) (out : List ℕ) (w : ItemWalk) (j : ℕ) → ItemsWritten i p k count d out w j → count ≤ j → out ≡ take count (drop k (items_of i)) ++ drop count d
  all_written k count out w j s l =
      let e : j ≡ count = let a = s.upto in omega arith in
      s.words ∙ ap (λ (q : ℕ). take q (drop k (items_of i)) ++ drop q d) e

module _ (i : List ℕ) (p : Parts) (w : ItemWalk) (o : ItemsOver i p w) (count : ℕ) (d : List ℕ) (e : count ≡ min (length d) (p.num_pushed - w.values.number)) where
  by_items : count ≡ min (length d) (length (items_of i) - w.values.number)
  by_items = e ∙ ap (λ (y : ℕ). min (length d) (y - w.values.number)) (many i p w o)

  pub read_many : count ≡ length (read_out (items_of i) w.values.number (length d))
  read_many = reading.many_of_lem (items_of i) w.values.number count d by_items

  pub read_fills : (out : List ℕ) → out ≡ take count (drop w.values.number (items_of i)) ++ drop count d → out ≡ filled (items_of i) w.values.number d
  read_fills out x = reading.fills_of (items_of i) w.values.number count d by_items out x

module _ (i : List ℕ) (k : ℕ) (d : List ℕ) where
  abbrev read : Outcome
  read = leaves (value (length (read_out (items_of i) k (length d)))) (filled (items_of i) k d)

  pub items_read : (c : ItemPlace) → StartsItems i k (Ok c) → (r : ℕ) (out : List ℕ) → r ≡ length (read_out (items_of i) c.walk.values.number (length d)) → out ≡ filled (items_of i) c.walk.values.number d → leaves (value r) out ≡ read_items_of i k d
  unfolding read_items_of
  items_read c b r out er ex =
      ap₂ (λ (x : ℕ) (w : List ℕ). leaves (value x) w) er ex
      ∙ ap (λ (n : ℕ). leaves (value (length (read_out (items_of i) n (length d)))) (filled (items_of i) n d)) b.2
      ∙ sym (ap (λ (a : Bool). cond a read (leaves (refused 7) d)) b.0)

  pub items_refused : (x : Refusal) → StartsItems i k (Err x) → leaves (refused (number_of x)) d ≡ read_items_of i k d
  unfolding read_items_of
  items_refused x b =
      ap (λ (n : ℕ). leaves (refused n) d) b.1 ∙ sym (ap (λ (a : Bool). cond a read (leaves (refused 7) d)) b.0)
