-- Demand 3, its three sentences. The steps that are folded are the definitions in the contracts of new, push, build and select, and
-- `accepted` is what every query decides first. Assumes nothing.
use Rattle.std.specs.Prelude.{◌≡◌, List, [], ◌∷◌, ◌++◌, map, ◌↔◌, Bool, true, false, cond, ℕ, zero, suc, ◌^◌, ◌≤◌, ◌<◌, length, get_or, take}
use Rattle.errors.specs.Answer.{Answer, value, none, done, refused}
use Rattle.elias_fano_words.specs.Sizes.{start_len}
use Rattle.elias_fano.specs.declared.builder.Builder.{Builder}
use Rattle.elias_fano.specs.Accept.{universe, declared, ranked, accepted, unopened, open_of}
use Rattle.elias_fano.specs.Ask.{Question, Select, query}
use Rattle.elias_fano.specs.Made.{Made}
use Rattle.elias_fano.specs.Steps.{new_of, push_of, build_of}
use Rattle.elias_fano_model.specs.Model.{Call, push, build, book, times_from}

-- ---- the contracts' steps, one after the other: each gets builder and words as the last one left them

unfoldable pub step_of : Builder → List ℕ → Call → Made
step_of b w (push t) = push_of b t w
step_of b w (build c) = build_of b c w

-- only an accepted build answers with a value
abbrev pub closes : Answer → Bool
closes (value k) = true
closes none = false
closes done = false
closes (refused k) = false

unfoldable pub run_from : Builder → List ℕ → List Call → List Made
run_from b w [] = []
run_from b w (x ∷ xs) =
    step_of b w x ∷ cond (closes (step_of b w x).answer) [] (run_from (step_of b w x).builder (step_of b w x).words xs)

-- after the start and after each call, up to the first accepted build
unfoldable pub run : ℕ → ℕ → List ℕ → List Call → List Made
run u n w xs = new_of u n w ∷ run_from (new_of u n w).builder (new_of u n w).words xs

-- what the last call left, m where there is none
abbrev pub end_from : Made → List Made → Made
end_from m [] = m
end_from m (x ∷ xs) = end_from x xs

unfoldable pub end_of : ℕ → ℕ → List ℕ → List Call → Made
end_of u n w xs = end_from (new_of u n w) (run_from (new_of u n w).builder (new_of u n w).words xs)

-- ---- "the list shown by select is select(0), select(1) and so on before the first none"

abbrev pub tell : Answer → List ℕ → List ℕ
tell (value t) l = t ∷ l
tell none l = []
tell done l = []
tell (refused k) l = []

abbrev pub shown_from : (ℕ → Answer) → ℕ → ℕ → List ℕ
shown_from f zero k = []
shown_from f (suc d) k = tell (f k) (shown_from f d (suc k))

-- no record has more than 16,777,216 times
unfoldable pub shown : List ℕ → List ℕ
shown i = shown_from (λ k. query i (Select k)) 16777217 0

-- ---- the sentences

-- a word is 64 bits
abbrev pub Words : List ℕ → Type 0
Words w = (i : ℕ) → get_or w i 0 < 2 ^ 64

-- none of 1, 2 and 3 applies to the start
pub record Begun (u n : ℕ) (lent : List ℕ) : Type 0 where
  pub a_universe : u < 2 ^ 64
  pub some : n ≡ 0 → ⊥
  pub most : n ≤ 16777216
  pub long : start_len u n ≤ length lent
  pub words : Words lent

-- "An image is accepted if the record's questions do not refuse it with 7": opening does not, and no question does
pub record NotRefused (i : List ℕ) : Type 0 where
  pub opening : (accepted i ≡ true) ↔ (open_of i ≡ unopened 7 → ⊥)
  pub question : (q : Question) → (accepted i ≡ true) ↔ (query i q ≡ refused 7 → ⊥)

abbrev pub Asked : Type 0
Asked = (i : List ℕ) → NotRefused i

-- 1. "equal images exactly for equal settings and times"
abbrev pub Same : Type 0
Same =
    (i j : List ℕ) → accepted i ≡ true → accepted j ≡ true
    → (i ≡ j) ↔ ((universe i ≡ universe j) × (declared i ≡ declared j) × (ranked i ≡ ranked j) × (shown i ≡ shown j))

-- some run of accepted pushes, perhaps of none, begun and finished with the settings of i, writes i
pub record Written (i : List ℕ) : Type 0 where
  pub u : ℕ
  pub n : ℕ
  pub c : Bool
  pub T : List ℕ
  pub lent : List ℕ
  pub that_universe : universe i ≡ u
  pub that_count : declared i ≡ n
  pub that_choice : ranked i ≡ c
  pub begun : Begun u n lent
  pub all_accepted : map (λ (s : Made). s.answer) (run u n lent (map push T ++ (build c ∷ []))) ≡ done ∷ (map (λ (t : ℕ). done) T ++ (value (length i) ∷ []))
  pub writes : take (length i) (end_of u n lent (map push T ++ (build c ∷ []))).words ≡ i

-- 2. "an image is accepted exactly if some run writes it"
abbrev pub Exactly : Type 0
Exactly = (i : List ℕ) → (accepted i ≡ true) ↔ Written i

-- 3. "over every list of calls of any length, answer, builder and every word are those of the book"; and where a build was accepted, its
-- image is accepted and select shows exactly the accepted times, in order
pub record ByTheBook (u n : ℕ) (lent : List ℕ) (calls : List Call) : Type 0 where
  pub every_call : run u n lent calls ≡ book u n lent calls
  pub finished : (k : ℕ) → (end_of u n lent calls).answer ≡ value k
      → (accepted (take k (end_of u n lent calls).words) ≡ true) × (shown (take k (end_of u n lent calls).words) ≡ times_from u n lent [] calls)

abbrev pub Whole : Type 0
Whole = (u n : ℕ) (lent : List ℕ) (calls : List Call) → Begun u n lent → ByTheBook u n lent calls

-- the demand
pub record Demand3 : Type 0 where
  pub asked : Asked
  pub same : Same
  pub exactly : Exactly
  pub whole : Whole
