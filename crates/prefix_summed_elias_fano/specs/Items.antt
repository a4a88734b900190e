-- The items of an image, one after the other: what a walk over them demands and leaves, and what reading them out leaves. i is an image, or
-- no words. Document 01, "src/int_vectors/prefix_summed_elias_fano.rs". Assumes nothing.
use Rattle.prefix_summed_elias_fano.specs.declared.walk.ItemPlace.{ItemPlace}
use Rattle.errors.specs.declared.Refusal.{Refusal}
use Rattle.std.specs.Prelude.{◌≡◌, List, [], ◌∷◌, Bool, true, false, ◌||◌, cond, ℕ, ◌+◌, ◌-◌, ◌<◌, eqb, length, get_or, Ok, Err, Result}
use Rattle.errors.specs.Answer.{value, refused, Outcome, leaves, of_option}
use Rattle.errors.specs.Refusal.{number_of}
use Rattle.elias_fano.specs.declared.image.Parts.{Parts}
use Rattle.elias_fano.specs.Accept.{accepted, parts_of, no_parts, times}
use Rattle.elias_fano.specs.Ask.{read_out, filled}
use Rattle.elias_fano_walk.specs.Walking.{WalkOver, Walked, walked}
use Rattle.prefix_summed_elias_fano.specs.Sums.{access_of}
use Rattle.prefix_summed_elias_fano.specs.declared.walk.ItemWalk.{ItemWalk}
use Rattle.prefix_summed_elias_fano.specs.declared.walk.ItemStep.{ItemStep}

-- an accepted image, or no words
unfoldable pub askable : List ℕ → Bool
askable i = eqb (length i) 0 || accepted i

-- each time less the one before it; x is before the first
unfoldable pub gaps_from : ℕ → List ℕ → List ℕ
gaps_from x [] = []
gaps_from x (t ∷ T) = (t - x) ∷ gaps_from t T

-- no words hold none
abbrev pub items_of : List ℕ → List ℕ
items_of i = gaps_from 0 (times i)

-- ---- a walk

-- the j-th step of a walk from the place k on is the item at k + j: 7 is decided at the start, and after the items comes none, and none again
abbrev pub ItemWalks : Type 0
ItemWalks = (i : List ℕ) (k j : ℕ) → cond (askable i) (walked (items_of i) k j) (refused 7) ≡ access_of i (k + j)

-- an item is ahead: the walk over the values from its own on, and the value before it
pub record ItemAhead (i : List ℕ) (p : Parts) (w : ItemWalk) : Type 0 where
  pub ok : accepted i ≡ true
  pub parts : p ≡ parts_of i
  pub walk : WalkOver i p w.values
  pub before : w.before ≡ get_or (0 ∷ times i) w.values.number 0

-- a walk as the start and each step leave it; at its end nothing is demanded of it
pub record ItemsOver (i : List ℕ) (p : Parts) (w : ItemWalk) : Type 0 where
  pub many : p.num_pushed ≡ length (times i)
  pub ahead : w.values.number < p.num_pushed → ItemAhead i p w

abbrev pub StartsItems : List ℕ → ℕ → Result ItemPlace Refusal → Type 0
StartsItems i k (Ok c) = (askable i ≡ true) × ItemsOver i c.parts c.walk × (c.walk.values.number ≡ k) × (c.parts ≡ cond (eqb (length i) 0) no_parts (parts_of i))
StartsItems i k (Err e) = (askable i ≡ false) × (number_of e ≡ 7)

-- what a step leaves: its answer, and the number of the next item
abbrev pub of_item_step : ItemStep → Walked
of_item_step r = record { answer = of_option r.item; number = r.rest.values.number }

-- ---- reading out

-- the items from the place k on, as many as the words take; the later words stay
unfoldable pub read_items_of : List ℕ → ℕ → List ℕ → Outcome
read_items_of i k out = cond (askable i) (leaves (value (length (read_out (items_of i) k (length out)))) (filled (items_of i) k out)) (leaves (refused 7) out)
