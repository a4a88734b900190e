-- The memory of a record, known before its first time is noted: document 02 (vii). Assumes nothing.
use Rattle.std.specs.Prelude.{◌≡◌, List, [], ◌∷◌, Bool, true, not, ◌&&◌, ◌||◌, ℕ, ◌+◌, ◌*◌, ◌^◌, ◌≤◌, ◌<◌, length, get_or, take}
use Rattle.errors.specs.Answer.{value, refused}
use Rattle.elias_fano_words.specs.Sizes.{high_len, overflow_limit, limit}
use Rattle.elias_fano.specs.Accept.{universe, declared, ranked, accepted}
use Rattle.elias_fano.specs.Made.{Made}
use Rattle.elias_fano_model.specs.Model.{Call, push, build}
use Rattle.elias_fano_model.specs.Demand3.{run, end_of, Words, Begun}

-- the bounds of an image, by its settings
pub record Bounded (i : List ℕ) : Type 0 where
  -- "the high length is at most 3 × n + 1"
  pub high : high_len (universe i) (declared i) ≤ 3 * declared i + 1
  -- "each of the two indexes holds at most floor(H / 64) overflow positions": words 4 and 5 say how many
  pub ones : get_or i 4 0 ≤ overflow_limit (high_len (universe i) (declared i))
  pub zeros : get_or i 5 0 ≤ overflow_limit (high_len (universe i) (declared i))
  -- "the limit on image length for given u, n and rank choice"
  pub long : length i ≤ limit (universe i) (declared i) (ranked i)

-- every finish has the choice c, or where c is the rank index, either choice
abbrev pub finishes_with : Bool → List Call → Bool
finishes_with c [] = true
finishes_with c (push t ∷ xs) = finishes_with c xs
finishes_with c (build d ∷ xs) = (c || not d) && finishes_with c xs

-- no answer is the refusal 3
abbrev pub NotShort : List Made → Type 0
NotShort [] = Unit {0}
NotShort (s ∷ ss) = (s.answer ≡ refused 3 → ⊥) × NotShort ss

pub record Memory : Type 0 where
  -- of every accepted image
  pub image_bounded : (i : List ℕ) → accepted i ≡ true → Bounded i
  -- of the image that a run leaves in its first k words
  pub run_bounded : (u n : ℕ) (lent : List ℕ) (calls : List Call) → Begun u n lent → (k : ℕ) → (end_of u n lent calls).answer ≡ value k → Bounded (take k (end_of u n lent calls).words)
  -- "No start, reading or finish with them draws 3 on a buffer of that length": over every list of calls of any length, whatever is read, also where 1 or 2 refuses the start
  pub enough : (u n : ℕ) (c : Bool) (lent : List ℕ) (calls : List Call) → u < 2 ^ 64 → Words lent → limit u n c ≤ length lent → finishes_with c calls ≡ true → NotShort (run u n lent calls)
