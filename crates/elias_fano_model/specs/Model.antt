-- The book of demand 3: document 01, "The book of demand 3", sentence by sentence. It is opened with u, n and the words lent, is fed only
-- the arguments of the calls, and keeps a list T of accepted times. It names no step of a contract. Assumes nothing.
use Rattle.std.specs.Prelude.{List, [], ◌∷◌, ◌++◌, Bool, false, not, ◌&&◌, cond, ℕ, ◌*◌, eqb, leb, ltb, length, drop, replicate}
use Rattle.errors.specs.Answer.{Answer, value, none, done, refused}
use Rattle.bit_words.specs.Vector.{words_for}
use Rattle.elias_fano_words.specs.Sizes.{low_len, start_len}
use Rattle.elias_fano_words.specs.Image.{image}
use Rattle.elias_fano_words.specs.Times.{last_of, bit_words}
use Rattle.elias_fano.specs.declared.builder.Builder.{Builder}
use Rattle.elias_fano.specs.Made.{Made, made, builder}

-- a call by its arguments: a reading with its time, a finish with its rank choice
pub data Call : Type 0 where
  push : ℕ → Call
  build : Bool → Call

-- the time joins the list where the answer is not a refusal
abbrev pub join : Answer → List ℕ → ℕ → List ℕ
join done T t = T ++ (t ∷ [])
join none T t = T
join (value k) T t = T
join (refused k) T t = T

module _ (u n : ℕ) (lent : List ℕ) where
  -- "4 if T is not empty and t is below its last; else 5 if t is u or more; else 6 if T has n times"
  unfoldable pub answer_to : List ℕ → ℕ → Answer
  answer_to T t =
      cond (not (eqb (length T) 0) && ltb t (last_of T)) (refused 4)
      (cond (leb u t) (refused 5)
      (cond (eqb (length T) n) (refused 6)
      done))

  -- "else t joins the end of T. Refused, T stays"
  unfoldable pub after : List ℕ → ℕ → List ℕ
  after T t = join (answer_to T t) T t

  -- "the words that the start zeroes hold the high and low bits of T's times at their places in the image, and zero everywhere
  -- else, the first six words included; the later words are as they were lent"
  unfoldable pub open_words : List ℕ → List ℕ
  open_words T = replicate 6 0 ++ (bit_words u n (words_for (n * low_len u n)) T ++ drop (start_len u n) lent)

  -- "u, n, the length of T and its last time, 0 while T is empty"
  abbrev pub numbers : List ℕ → Builder
  numbers T = builder u n (length T) (last_of T)

  -- "3 if the image .. is longer than the buffer"
  unfoldable pub too_long : Bool → List ℕ → Bool
  too_long c T = ltb (length lent) (length (image u n c T))

  abbrev pub open_book : Answer → List ℕ → Made
  open_book a T = made a (numbers T) (open_words T)

  -- "the first words are that image, the later ones and the builder's numbers stay"
  abbrev pub closed_book : Bool → List ℕ → Made
  closed_book c T = made (value (length (image u n c T))) (numbers T) (image u n c T ++ drop (length (image u n c T)) (open_words T))

  -- what the book shows after each call, up to the first accepted finish, which closes it
  unfoldable pub book_from : List ℕ → List Call → List Made
  book_from T [] = []
  book_from T (push t ∷ xs) = open_book (answer_to T t) (after T t) ∷ book_from (after T t) xs
  book_from T (build c ∷ xs) = cond (too_long c T) (open_book (refused 3) T ∷ book_from T xs) (closed_book c T ∷ [])

  -- after the start and after each call
  unfoldable pub book : List Call → List Made
  book xs = open_book done [] ∷ book_from [] xs

  -- the accepted times, once the calls are done or the book is closed
  unfoldable pub times_from : List ℕ → List Call → List ℕ
  times_from T [] = T
  times_from T (push t ∷ xs) = times_from (after T t) xs
  times_from T (build c ∷ xs) = cond (too_long c T) (times_from T xs) T

  -- the choice of the finish that closed the book; false where none did
  unfoldable pub choice_from : List ℕ → List Call → Bool
  choice_from T [] = false
  choice_from T (push t ∷ xs) = choice_from (after T t) xs
  choice_from T (build c ∷ xs) = cond (too_long c T) (choice_from T xs) c
