-- A line as words and numbers. A text is a list of bytes, a space is 32. Assumes nothing.
use Rattle.std.specs.Prelude.{Bool, cond, List, [], ◌∷◌, ℕ, suc, ◌+◌, eqb, Option, Some, None, Result, Ok, Err}
use Rattle.std.specs.Str.{bytes_eq}
use Rattle.decimal.specs.Decimal.{parse_of}
use Rattle.decimal.specs.declared.ParseError.{ParseError}
use Rattle.console_text.specs.declared.line.Arguments.{Arguments}

-- how many bytes stand before the first b
unfoldable pub up_to : ℕ → List ℕ → ℕ
up_to b [] = 0
up_to b (x ∷ xs) = cond (eqb x b) 0 (suc (up_to b xs))

-- ---- words

-- a byte more before the first word
unfoldable pub grow : ℕ → List (List ℕ) → List (List ℕ)
grow x [] = (x ∷ []) ∷ []
grow x (w ∷ ws) = (x ∷ w) ∷ ws

-- the words of a list; a space at its end begins none
unfoldable pub words_in : List ℕ → List (List ℕ)
words_in [] = []
words_in (x ∷ xs) = cond (eqb x 32) ([] ∷ words_in xs) (grow x (words_in xs))

abbrev pub same_text : List ℕ → List ℕ → Bool
same_text = bytes_eq

-- which of the words the name is, counted from 0, or how many there are
unfoldable pub place_among : List (List ℕ) → List ℕ → ℕ
place_among [] name = 0
place_among (w ∷ ws) name = cond (same_text w name) 0 (suc (place_among ws name))

-- what stands between spaces, with nothing left out
unfoldable pub split : List ℕ → List (List ℕ)
split [] = [] ∷ []
split (x ∷ xs) = cond (eqb x 32) ([] ∷ split xs) (grow x (split xs))

-- what stands after the word that ends before a text: its first byte is the space after that word
unfoldable pub fields : List ℕ → List (List ℕ)
fields [] = []
fields (x ∷ xs) = split xs

-- ---- numbers

abbrev pub numbers_of : ℕ → ℕ → ℕ → ℕ → ℕ → Arguments
numbers_of k x y z w = record { n = k; a = x; b = y; c = z; d = w }

abbrev pub if_at : ℕ → ℕ → ℕ → ℕ → ℕ
if_at n k x other = cond (eqb n k) x other

abbrev pub if_value : Result ℕ ParseError → (ℕ → Option Arguments) → Option Arguments
if_value (Ok x) f = f x
if_value (Err e) f = None

-- k numbers, of which the first four are x y z w, and those of the words after them; no numbers if one of these is out of form
unfoldable pub numbers_from : ℕ → ℕ → ℕ → ℕ → ℕ → List (List ℕ) → Option Arguments
numbers_from k x y z w [] = Some (numbers_of k x y z w)
numbers_from k x y z w (t ∷ ts) = if_value (parse_of t) (λ v. numbers_from (k + 1) (if_at k 0 v x) (if_at k 1 v y) (if_at k 2 v z) (if_at k 3 v w) ts)

abbrev pub or_zero : Result ℕ ParseError → ℕ
or_zero (Ok x) = x
or_zero (Err e) = 0

-- each word as a number, 0 where it is none
unfoldable pub values_of : List (List ℕ) → List ℕ
values_of [] = []
values_of (t ∷ ts) = or_zero (parse_of t) ∷ values_of ts
