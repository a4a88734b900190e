-- No question of a list is refused with 7: that is the image's. Assumes nothing.
use mathlib.Core.Path.{◌≡◌}
use mathlib.Core.List.{List, [], ◌∷◌}
use mathlib.Core.Bool.{Bool, true, false, not, ◌&&◌, cond}
use Prim.Native.Nat.{ℕ, suc, ◌+◌, ◌-◌}
use native.Mathlib.Omega.{arith}
use lib.Dec.{eqb, leb, ltb}
use lib.ListN.{length, get_or, take, drop}
use Rattle.errors.specs.Answer.{Answer, value, none, done, refused}
use Rattle.elias_fano.specs.Ask.{Question, Select, Delta, Rank, Predecessor, Successor, Binsearch, BinsearchRange, Next, ReadFrom, Len, IsEmpty, Universe, HasRank, nth, gap, below, greater, lesser, greatest, smallest, first_index, searched, ask}

abbrev Other : Answer → Type 0
Other a = a ≡ refused 7 → ⊥

a_value : (k : ℕ) → Other (value k)
a_value k e = let z : ◌≡◌ {A = ℕ} 0 1 = cc in omega arith

a_none : Other none
a_none e = let z : ◌≡◌ {A = ℕ} 0 1 = cc in omega arith

a_refusal : (k : ℕ) → (k ≡ 7 → ⊥) → Other (refused k)
a_refusal k h e = h (let d : k ≡ 7 = cc in d)

either : (b : Bool) (x y : Answer) → Other x → Other y → Other (cond b x y)
either true x y f g = f
either false x y f g = g

nth_other : (T : List ℕ) (k : ℕ) → Other (nth T k)
unfolding nth
nth_other T k = either (ltb k (length T)) (value (get_or T k 0)) none (a_value (get_or T k 0)) a_none

gap_other : (T : List ℕ) (k : ℕ) → Other (gap T k)
unfolding gap
gap_other T k = either (ltb k (length T)) (value (get_or T k 0 - get_or (0 ∷ T) k 0)) none (a_value _) a_none

greater_other : (x : ℕ) (a : Answer) → Other (greater x a)
greater_other x (value y) = a_value _
greater_other x none = a_value x
greater_other x done = a_value x
greater_other x (refused k) = a_value x

lesser_other : (x : ℕ) (a : Answer) → Other (lesser x a)
lesser_other x (value y) = a_value _
lesser_other x none = a_value x
lesser_other x done = a_value x
lesser_other x (refused k) = a_value x

greatest_other : (v : ℕ) (T : List ℕ) → Other (greatest v T)
unfolding greatest
greatest_other v [] = a_none
greatest_other v (x ∷ T) = either (leb x v) (greater x (greatest v T)) (greatest v T) (greater_other x (greatest v T)) (greatest_other v T)

smallest_other : (v : ℕ) (T : List ℕ) → Other (smallest v T)
unfolding smallest
smallest_other v [] = a_none
smallest_other v (x ∷ T) = either (leb v x) (lesser x (smallest v T)) (smallest v T) (lesser_other x (smallest v T)) (smallest_other v T)

first_other : (v k : ℕ) (T : List ℕ) → Other (first_index v k T)
unfolding first_index
first_other v k [] = a_none
first_other v k (x ∷ T) = either (eqb x v) (value k) (first_index v (suc k) T) (a_value k) (first_other v (suc k) T)

searched_other : (T : List ℕ) (a b v : ℕ) → Other (searched T a b v)
unfolding searched
searched_other T a b v = either (leb b a) none _ a_none (either (ltb (length T) b) (refused 9) _ (a_refusal 9 (λ e. omega arith)) (first_other v a (take (b - a) (drop a T))))

pub not_seven : (u n : ℕ) (c : Bool) (T : List ℕ) (q : Question) → ask u n c T q ≡ refused 7 → ⊥
unfolding ask
not_seven u n c T (Select k) = nth_other T k
not_seven u n c T (Delta k) = gap_other T k
not_seven u n c T (Rank t) =
    either (ltb u t) none _ a_none (either (eqb t u) (value (length T)) _ (a_value (length T)) (either (not c) (refused 8) (value (below t T)) (a_refusal 8 (λ e. omega arith)) (a_value (below t T))))
not_seven u n c T (Predecessor v) = either (not c && ltb (suc v) u) (refused 8) (greatest v T) (a_refusal 8 (λ e. omega arith)) (greatest_other v T)
not_seven u n c T (Successor v) = either (leb u v) none _ a_none (either (not c) (refused 8) (smallest v T) (a_refusal 8 (λ e. omega arith)) (smallest_other v T))
not_seven u n c T (Binsearch v) = searched_other T 0 (length T) v
not_seven u n c T (BinsearchRange a b v) = searched_other T a b v
not_seven u n c T (Next k j) = nth_other T (k + j)
not_seven u n c T (ReadFrom k room) = a_value _
not_seven u n c T Len = a_value (length T)
not_seven u n c T IsEmpty = a_value _
not_seven u n c T Universe = a_value u
not_seven u n c T HasRank = a_value _
