-- What is measured of an image's indexes, and what is written where there is no second one. Assumes nothing.
use Rattle.std.specs.Prelude.{Ok, Err, Result, IsOk}
use mathlib.Core.Path.{◌≡◌, refl, sym, ap, ◌∙◌}
use mathlib.Core.List.{List, [], ◌∷◌, ◌++◌}
use mathlib.Core.Bool.{Bool, true, false, cond}
use Prim.Native.Nat.{ℕ, ◌≤◌}
use native.Mathlib.Omega.{arith}
use lib.ListN.{length, set, take, drop, take-append-drop}
use Rattle.errors.specs.declared.Refusal.{Refusal}
use Rattle.darray_positions.specs.Index.{blocks, lanes, lane_words, before, overflow, table, index_words}
use Rattle.darray_positions.specs.Positions.{positions}
use Rattle.darray.specs.Queries.{of_measured, measure_of}
use Rattle.darray.specs.declared.inner.Sizes.{Sizes}
use Rattle.darray.proofs.Built as built
use Rattle.darray.proofs.Within.{measured_sized}
use Rattle.elias_fano.specs.Finishing.{Measurable, zeros_words}

-- ---- what is measured

module _ (b : Bool) (ws : List ℕ) (len : ℕ) (r : Result Sizes Refusal) (e : of_measured r ≡ measure_of ws len b) where
  pub overflow_is : (s : Sizes) → r ≡ Ok s → s.overflow ≡ before (positions b ws len) (blocks (positions b ws len))
  overflow_is s h = (measured_sized b ws len s (ap of_measured (sym h) ∙ e)).overflow

  not_refused : (x : Refusal) → r ≡ Err x → Measurable ws len → ⊥
  not_refused x h m = built.measures ws len b [] _ m.0 (omega (arith, m.1)) (ap of_measured (sym h) ∙ e)

pub measured : (b : Bool) (ws : List ℕ) (len : ℕ) (r : Result Sizes Refusal) → of_measured r ≡ measure_of ws len b → Measurable ws len → IsOk r
measured b ws len (Ok s) e m = refl
measured b ws len (Err x) e m = absurd (not_refused b ws len (Err x) e x refl m)

-- what is there with the choice only
pub chosen : (c : Bool) (x y : ℕ) → c ≡ true → x ≡ y → x ≡ cond c y 0
chosen c x y e d = d ∙ ap (λ (b : Bool). cond b y 0) (sym e)

pub not_chosen : (c : Bool) (y : ℕ) → c ≡ false → 0 ≡ cond c y 0
not_chosen c y e = ap (λ (b : Bool). cond b y 0) (sym e)

-- ---- what is written

pub header_set : (w : List ℕ) (a b c d e f : ℕ) → 6 ≤ length w → set (set (set (set (set (set w 0 a) 1 b) 2 c) 3 d) 4 e) 5 f ≡ a ∷ b ∷ c ∷ d ∷ e ∷ f ∷ drop 6 w
header_set [] a b c d e f h = absurd (omega arith)
header_set (_ ∷ []) a b c d e f h = absurd (omega arith)
header_set (_ ∷ _ ∷ []) a b c d e f h = absurd (omega arith)
header_set (_ ∷ _ ∷ _ ∷ []) a b c d e f h = absurd (omega arith)
header_set (_ ∷ _ ∷ _ ∷ _ ∷ []) a b c d e f h = absurd (omega arith)
header_set (_ ∷ _ ∷ _ ∷ _ ∷ _ ∷ []) a b c d e f h = absurd (omega arith)
header_set (_ ∷ _ ∷ _ ∷ _ ∷ _ ∷ _ ∷ w) a b c d e f h = refl

no_words : index_words [] ≡ []
unfolding index_words table blocks lanes lane_words overflow
no_words = refl

-- the words before the place `at`, the second index, and the later words
abbrev zeroed : Bool → List ℕ → ℕ → ℕ → List ℕ → List ℕ
zeroed c ws len at w = take at w ++ (zeros_words c ws len ++ drop (length (zeros_words c ws len)) (drop at w))

pub zeros_none : (c : Bool) (ws : List ℕ) (len at : ℕ) (w : List ℕ) → c ≡ false → w ≡ zeroed c ws len at w
zeros_none c ws len at w e =
    sym (take-append-drop at w) ∙ ap (λ (I : List ℕ). take at w ++ (I ++ drop (length I) (drop at w))) (sym no_words)
    ∙ ap (λ (x : Bool). zeroed x ws len at w) (sym e)

pub zeros_some : (c : Bool) (ws : List ℕ) (len at : ℕ) (w : List ℕ) → c ≡ true → zeroed true ws len at w ≡ zeroed c ws len at w
zeros_some c ws len at w e = ap (λ (x : Bool). zeroed x ws len at w) (sym e)
