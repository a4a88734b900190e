-- Decimal text: what a text spells, and the digits of a number. A text is a list of bytes, '0' is 48 and '9' is 57.
use Rattle.std.specs.Prelude.{Bool, true, cond, List, [], ◌∷◌, ◌++◌, ℕ, zero, suc, ◌+◌, ◌-◌, ◌*◌, ◌/◌, ◌%◌, ◌^◌, length, take, drop, ltb, leb, eqb, ◌&&◌, Option, Some, None, Result, Ok, Err}
use Rattle.decimal.specs.declared.ParseError.{ParseError}
use Rattle.decimal.specs.declared.ParseError.TheVariants.{OutOfForm, TooLarge}

abbrev pub is_digit : ℕ → Bool
is_digit b = leb 48 b && leb b 57

unfoldable pub all_digits : List ℕ → Bool
all_digits [] = true
all_digits (b ∷ bs) = is_digit b && all_digits bs

-- the number that the digits spell after those that spell x
unfoldable pub value_from : ℕ → List ℕ → ℕ
value_from x [] = x
value_from x (b ∷ bs) = value_from (x * 10 + (b - 48)) bs

-- a number below 2^64 is a value
abbrev pub sized : ℕ → Result ℕ ParseError
sized v = cond (ltb v (2 ^ 64)) (Ok v) (Err TooLarge)

-- one digit or more, and nothing else
unfoldable pub parse_of : List ℕ → Result ℕ ParseError
parse_of t = cond (eqb (length t) 0) (Err OutOfForm) (cond (all_digits t) (sized (value_from 0 t)) (Err OutOfForm))

-- the last k digits of x, the highest first
unfoldable pub digits : ℕ → ℕ → List ℕ
digits zero x = []
digits (suc k) x = digits k (x / 10) ++ (48 + x % 10) ∷ []

-- how many digits x has, for x below 10 ^ (f + 1)
unfoldable pub num_digits : ℕ → ℕ → ℕ
num_digits zero x = 1
num_digits (suc f) x = cond (ltb x 10) 1 (suc (num_digits f (x / 10)))

-- the digits of a u64, of which there are 20 at most, with no leading zero
abbrev pub text_of : ℕ → List ℕ
text_of x = digits (num_digits 19 x) x

-- what a write leaves: its answer and every byte lent
pub record Left : Type 0 where
  pub answer : Option ℕ
  pub bytes : List ℕ

abbrev pub left : Option ℕ → List ℕ → Left
left a l = record { answer = a; bytes = l }

-- l with the text t over its bytes from `at` on
abbrev pub over : List ℕ → List ℕ → ℕ → List ℕ
over t l at = take at l ++ (t ++ drop (at + length t) l)

unfoldable pub write_of : ℕ → List ℕ → ℕ → Left
write_of x l at =
    cond (leb (at + length (text_of x)) (length l))
    (left (Some (at + length (text_of x))) (over (text_of x) l at))
    (left None l)
