-- What opening a vector tells, and what the questions of an opened one demand. i is an image, or no words. Assumes nothing.
use Rattle.errors.specs.declared.Refusal.{Refusal}
use Rattle.std.specs.Prelude.{◌≡◌, List, Bool, true, cond, ℕ, eqb, length, Ok, Err, Result}
use Rattle.errors.specs.Refusal.{number_of}
use Rattle.elias_fano.specs.Accept.{parts_of, no_parts, times}
use Rattle.sarray.specs.declared.vector.SArray.{SArray}
use Rattle.sarray.specs.Ask.{is_vector}

-- the vector of that length and choice; one of zeros has no image, and no parts
abbrev pub vector_of : ℕ → Bool → List ℕ → SArray
vector_of len c i = record { num_bits = len; num_ones = length (times i); parts = cond (eqb (length i) 0) no_parts (parts_of i); has_rank = c }

-- what an opening finds: a vector, or a refusal by its number
pub data SparseOpening : Type 0 where
  vector : SArray → SparseOpening
  no_vector : ℕ → SparseOpening

abbrev pub of_vector : Result SArray Refusal → SparseOpening
of_vector (Ok v) = vector v
of_vector (Err e) = no_vector (number_of e)

unfoldable pub sparse_open : ℕ → Bool → List ℕ → SparseOpening
sparse_open len c i = cond (is_vector len c i) (vector (vector_of len c i)) (no_vector 7)

-- an opened vector
pub record OpenVector (i : List ℕ) (v : SArray) : Type 0 where
  pub ok : is_vector v.num_bits v.has_rank i ≡ true
  pub is : v ≡ vector_of v.num_bits v.has_rank i
