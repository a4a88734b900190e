-- What many questions leave in the words that are lent for their answers. i is an image. Assumes nothing.
use Rattle.std.specs.Prelude.{◌≡◌, List, [], ◌∷◌, ◌++◌, Bool, cond, ℕ, ◌*◌, ◌/◌, min, length, take, drop}
use Rattle.errors.specs.Answer.{Answer, value, refused, Outcome, leaves}
use Rattle.elias_fano.specs.Accept.{accepted}
use Rattle.elias_fano.specs.Ask.{Question, query}
use Rattle.sarray.specs.Ask.{SparseQuestion, is_vector, sparse_query}
use Rattle.ffi.specs.declared.EfAnswer.{EfAnswer}
use Rattle.ffi.specs.Answers.{ef_answer}

-- each call answers as f says
abbrev pub Answering : {F : Type 0} → (F → ℕ → EfAnswer → Type 0) → F → (ℕ → Answer) → Type 0
Answering post answer f = (x : ℕ) (r : EfAnswer) → post answer x r → r ≡ ef_answer (f x)

-- the answers to the arguments, two words to each: its kind and its value
unfoldable pub answer_words : (ℕ → Answer) → List ℕ → List ℕ
answer_words f [] = []
answer_words f (x ∷ xs) = (ef_answer (f x)).kind ∷ (ef_answer (f x)).value ∷ answer_words f xs

-- as many answers as both hold
unfoldable pub both : List ℕ → List ℕ → ℕ
both xs out = min (length xs) (length out / 2)

-- n arguments are answered, and the later words stay
unfoldable pub answered : (ℕ → Answer) → ℕ → List ℕ → List ℕ → List ℕ
answered f n xs out = answer_words f (take n xs) ++ drop (2 * n) out

-- the number of answers and every word of out, where f answers each argument; 7 comes first, for words that are not what is asked, and alters none
unfoldable pub many_if : Bool → (ℕ → Answer) → List ℕ → List ℕ → Outcome
many_if ok f xs out = cond ok (leaves (value (both xs out)) (answered f (both xs out) xs out)) (leaves (refused 7) out)

-- of a record
abbrev pub many_of : List ℕ → (ℕ → Question) → List ℕ → List ℕ → Outcome
many_of i q = many_if (accepted i) (λ x. query i (q x))

-- of a sparse vector
abbrev pub many_sparse : ℕ → Bool → List ℕ → (ℕ → SparseQuestion) → List ℕ → List ℕ → Outcome
many_sparse len c i q = many_if (is_vector len c i) (λ x. sparse_query len c i (q x))
