-- Going on after a power cut: what `resume` takes, and that nothing of what comes after is changed by a cut. `resume_of` is the definition in the contract
-- of `resume`, and the runs are those of demand 3. Assumes nothing.
use Rattle.std.specs.Prelude.{◌≡◌, List, [], ◌∷◌, ◌++◌, ◌↔◌, Bool, true, not, ◌&&◌, ℕ, ◌^◌, ◌<◌, take}
use Rattle.errors.specs.Answer.{value, done}
use Rattle.elias_fano_words.specs.Sizes.{start_len}
use Rattle.elias_fano.specs.declared.builder.Builder.{Builder}
use Rattle.elias_fano.specs.Accept.{accepted}
use Rattle.elias_fano.specs.Made.{Made}
use Rattle.elias_fano.specs.Steps.{held_times, resume_of}
use Rattle.elias_fano_model.specs.Model.{Call, book_from, times_from}
use Rattle.elias_fano_model.specs.Demand3.{closes, run_from, run, end_from, end_of, shown, Words, Begun}

-- no finish is accepted
abbrev pub unclosed : List Made → Bool
unclosed [] = true
unclosed (s ∷ ss) = not (closes s.answer) && unclosed ss

-- some list of calls from an accepted start, without an accepted finish, leaves this builder and these words of the start
pub record Left (b : Builder) (w : List ℕ) : Type 0 where
  pub u : ℕ
  pub n : ℕ
  pub lent : List ℕ
  pub calls : List Call
  pub begun : Begun u n lent
  pub unfinished : unclosed (run u n lent calls) ≡ true
  pub builder_left : (end_of u n lent calls).builder ≡ b
  pub words_left : take (start_len u n) (end_of u n lent calls).words ≡ take (start_len u n) w

-- demand 3's third sentence from there on: answer, builder and every word are those of the book that holds the times that the words hold; and where a build was accepted,
-- its image is accepted and select shows these times and those accepted since
pub record ByTheBookFrom (b : Builder) (w : List ℕ) (calls : List Call) : Type 0 where
  pub every_call : run_from b w calls ≡ book_from b.universe b.num_vals w (held_times b w) calls
  pub finished : (k : ℕ) → (end_from (resume_of b w) (run_from b w calls)).answer ≡ value k
      → (accepted (take k (end_from (resume_of b w) (run_from b w calls)).words) ≡ true)
      × (shown (take k (end_from (resume_of b w) (run_from b w calls)).words) ≡ times_from b.universe b.num_vals w (held_times b w) calls)

-- a cut after any list of calls
pub record Unbroken (u n : ℕ) (lent : List ℕ) (calls : List Call) : Type 0 where
  -- builder and words of the start, in any other words after them, are taken, and hold the accepted times
  pub taken : (w : List ℕ) → Words w → take (start_len u n) w ≡ take (start_len u n) (end_of u n lent calls).words
      → ((resume_of (end_of u n lent calls).builder w).answer ≡ done) × (held_times (end_of u n lent calls).builder w ≡ times_from u n lent [] calls)
  -- with all words: what comes after is what comes after without a cut
  pub same_run : (later : List Call) → run u n lent (calls ++ later) ≡ run u n lent calls ++ run_from (end_of u n lent calls).builder (end_of u n lent calls).words later

pub record Resume : Type 0 where
  pub exactly : (b : Builder) (w : List ℕ) → b.universe < 2 ^ 64 → Words w → ((resume_of b w).answer ≡ done) ↔ Left b w
  pub goes_on : (b : Builder) (w : List ℕ) (calls : List Call) → b.universe < 2 ^ 64 → Words w → (resume_of b w).answer ≡ done → ByTheBookFrom b w calls
  pub unbroken : (u n : ℕ) (lent : List ℕ) (calls : List Call) → Begun u n lent → unclosed (run u n lent calls) ≡ true → Unbroken u n lent calls
