-- A record as the words of its file. Assumes nothing.
use Rattle.std.specs.Prelude.{◌≡◌, ℕ, ◌-◌, ◌<◌, ◌≤◌, List, [], ◌∷◌, ◌++◌, length, take, slice_index, Option, Some, None, Result, Ok, Err}
use Rattle.errors.specs.Answer.{done}
use Rattle.elias_fano_words.specs.Sizes.{start_len}
use Rattle.elias_fano.specs.declared.builder.Builder.{Builder}
use Rattle.elias_fano.specs.Steps.{resume_test}
use Rattle.word_files.specs.Files.{PathFits}
use Rattle.record_file.specs.Sum.{sum_of}
use Rattle.record_file.specs.declared.KeptError.{KeptError}
use Rattle.record_file.specs.declared.KeptError.TheVariants.{Missing, Unreadable, Refused, TooLong}

-- the builder's numbers and the sum
unfoldable pub head_of : Builder → ℕ → List ℕ
head_of b c = b.universe ∷ b.num_vals ∷ b.num_pushed ∷ b.last ∷ c ∷ []

-- the file of a record with these words of its start
unfoldable pub stored : Builder → List ℕ → List ℕ
stored b ws = head_of b (sum_of b ws) ++ ws

unfoldable pub builder_of : List ℕ → Builder
builder_of ws = record { universe = slice_index ws 0; num_vals = slice_index ws 1; num_pushed = slice_index ws 2; last = slice_index ws 3 }

-- a record whose sum is right, and that some run leaves
pub record Right (b : Builder) (check : ℕ) (ws : List ℕ) : Type 0 where
  pub summed : check ≡ sum_of b ws
  pub resumed : resume_test b ws ≡ done

-- a builder's settings are in range, and its start has so many words
abbrev pub StartLen : Builder → ℕ → Type 0
StartLen b k = (0 < b.num_vals) × (b.num_vals ≤ 16777216) × (k ≡ start_len b.universe b.num_vals)

-- a builder's settings are in range, there are as many words as its start has, or more, and the path has room for `.new`
abbrev pub Keepable : Builder → List ℕ → List ℕ → Type 0
Keepable b ws path = (0 < b.num_vals) × (b.num_vals ≤ 16777216) × (start_len b.universe b.num_vals ≤ length ws) × PathFits path 4

abbrev pub StartIs : Builder → Option ℕ → Type 0
StartIs b (Some k) = StartLen b k
StartIs b None = 0 < b.num_vals → b.num_vals ≤ 16777216 → ⊥

-- the words of a file store a record that some run leaves, with the words of its start
pub record Stores (file : List ℕ) (b : Builder) (ws : List ℕ) : Type 0 where
  pub is : file ≡ stored b ws
  pub whole : length ws ≡ start_len b.universe b.num_vals
  pub resumed : resume_test b ws ≡ done

-- a record is held exactly if the file stores one: that one, with the words of its start in front
abbrev pub Restores : List ℕ → List ℕ → Result Builder KeptError → Type 0
Restores file ws (Ok b) = Stores file b (take (length file - 5) ws)
Restores file ws (Err Refused) = (b : Builder) (start : List ℕ) → Stores file b start → ⊥
Restores file ws (Err Missing) = ⊥
Restores file ws (Err Unreadable) = ⊥
Restores file ws (Err TooLong) = ⊥
