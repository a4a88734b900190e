-- What the functions that write the record of prefix sums demand and find, inside the crate: no public contract rests on it. A is the list of
-- items. Assumes nothing.
use Rattle.errors.specs.declared.Refusal.{Refusal}
use Rattle.std.specs.Prelude.{◌≡◌, List, ◌++◌, ℕ, suc, ◌-◌, ◌^◌, ◌≤◌, ◌<◌, length, take, drop, replicate, Ok, Err, Some, None, Result, Option}
use Rattle.errors.specs.Answer.{refused}
use Rattle.errors.specs.Refusal.{number_of}
use Rattle.elias_fano_words.specs.Sizes.{start_len, sizes_of}
use Rattle.elias_fano_words.specs.declared.sizes.Sizes.{Sizes}
use Rattle.elias_fano.specs.Finishing.{filed_in}
use Rattle.prefix_summed_elias_fano.specs.Sums.{sum, sums, sums_image, slice_test}
use Rattle.prefix_summed_elias_fano.specs.declared.build.Job.{Job}

-- the sum, if it is below 2^64 - 1
abbrev pub SumOf : List ℕ → Option ℕ → Type 0
SumOf A (Some s) = (s ≡ sum A) × (s < 2 ^ 64 - 1)
SumOf A None = 2 ^ 64 - 1 ≤ sum A

-- so many items as a record takes, with such a sum
pub record Summable (A : List ℕ) : Type 0 where
  pub some : 0 < length A
  pub most : length A ≤ 16777216
  pub small : sum A < 2 ^ 64 - 1

-- x is the sum of the items up to one place, and another follows
pub record Part (A : List ℕ) (from to x : ℕ) : Type 0 where
  pub order : from ≤ to
  pub upto : to ≤ length A
  pub before : x ≡ sum (take from A)
  pub small : sum A < 2 ^ 64

-- k words are enough for its start
pub record Writing (A : List ℕ) (s : Sizes) (k : ℕ) : Type 0 where
  pub summable : Summable A
  pub sizes : s ≡ sizes_of (suc (sum A)) (length A)
  pub room : start_len (suc (sum A)) (length A) ≤ k

-- the words that a start of these settings zeroes are 0
abbrev pub Zeroed : List ℕ → List ℕ → Type 0
Zeroed A w = w ≡ replicate (start_len (suc (sum A)) (length A)) 0 ++ drop (start_len (suc (sum A)) (length A)) w

-- the words after a start of these settings, and a reading of each sum
abbrev pub filed_sums : List ℕ → List ℕ → List ℕ
filed_sums A w = filed_in (suc (sum A)) (length A) (sums A) w

-- nothing stands against it, with k words lent
pub record Ready (A : List ℕ) (k : ℕ) (j : Job) : Type 0 where
  pub summable : Summable A
  pub sum_is : j.sum ≡ sum A
  pub sizes : j.sizes ≡ sizes_of (suc (sum A)) (length A)
  pub room : length (sums_image A) ≤ k

abbrev pub Tests : List ℕ → ℕ → Result Job Refusal → Type 0
Tests A k (Ok j) = Ready A k j
Tests A k (Err e) = slice_test A k ≡ refused (number_of e)
