-- Demand 2: "`select(k)` is the k-th accepted time; rank, gaps, neighbours, search, walk .. are what the papers .. and document 01 say". `query` is the
-- definition in the contract of every question, and `ask` says what is answered of a list. Assumes nothing.
use Rattle.std.specs.Prelude.{◌≡◌, List, [], Bool, ℕ, length, take}
use Rattle.errors.specs.Answer.{value, leaves}
use Rattle.elias_fano.specs.Ask.{Question, ReadFrom, ask, query, filled, read_from_of}
use Rattle.elias_fano_model.specs.Model.{Call, times_from, choice_from}
use Rattle.elias_fano_model.specs.Demand3.{end_of, Begun}

-- every question of the image i is that of the settings and the times, and a reading out gives those times
pub record Answers (u n : ℕ) (c : Bool) (T i : List ℕ) : Type 0 where
  pub question : (q : Question) → query i q ≡ ask u n c T q
  pub reading_out : (k : ℕ) (out : List ℕ) → read_from_of i k out ≡ leaves (ask u n c T (ReadFrom k (length out))) (filled T k out)

-- for every list of calls that ends in an accepted build, of the image that it leaves in the first k words: the settings are those of the start and of
-- that build, and the times are the accepted ones
abbrev pub Demand2 : Type 0
Demand2 =
    (u n : ℕ) (lent : List ℕ) (calls : List Call) → Begun u n lent
    → (k : ℕ) → (end_of u n lent calls).answer ≡ value k
    → Answers u n (choice_from u n lent [] calls) (times_from u n lent [] calls) (take k (end_of u n lent calls).words)
