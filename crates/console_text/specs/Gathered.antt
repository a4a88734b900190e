-- What gathers in the console's output buffer of 65,536 bytes: how many bytes have gathered, and every byte of the buffer. No contract
-- can say what goes out, which is what has gathered when the buffer is full. Assumes nothing.
use Rattle.std.specs.Prelude.{cond, List, [], ◌∷◌, ℕ, ◌+◌, ◌-◌, ltb, set, unwrap_or}
use Rattle.errors.specs.Answer.{Answer, value, none, done, refused}
use Rattle.decimal.specs.Decimal.{Left, write_of}
use Rattle.console_text.specs.Says.{Says, answers, bad, unknown}

pub record Gathered : Type 0 where
  pub at : ℕ
  pub bytes : List ℕ

abbrev pub gathered : ℕ → List ℕ → Gathered
gathered k l = record { at = k; bytes = l }

-- what is left once all of it has gone out
abbrev pub emptied : Gathered → Gathered
emptied g = gathered 0 g.bytes

-- a byte more, at the front again once the buffer is full
unfoldable pub with_byte : Gathered → ℕ → Gathered
with_byte g b = cond (ltb g.at 65536) (gathered (g.at + 1) (set g.bytes g.at b)) (gathered 1 (set g.bytes 0 b))

unfoldable pub with_text : Gathered → List ℕ → Gathered
with_text g [] = g
with_text g (b ∷ bs) = with_text (with_byte g b) bs

-- where the next n bytes go: to the front where fewer are left
abbrev pub room_at : ℕ → ℕ → ℕ
room_at n k = cond (ltb (65536 - n) k) 0 k

abbrev pub with_room : ℕ → Gathered → Gathered
with_room n g = gathered (room_at n g.at) g.bytes

abbrev pub of_left : ℕ → Left → Gathered
of_left k l = gathered (unwrap_or l.answer k) l.bytes

-- a number has 20 digits at most
unfoldable pub with_number : Gathered → ℕ → Gathered
with_number g x = of_left (room_at 20 g.at) (write_of x g.bytes (room_at 20 g.at))

-- each number after a space
unfoldable pub with_list : Gathered → List ℕ → Gathered
with_list g [] = g
with_list g (x ∷ xs) = with_list (with_number (with_byte g 32) x) xs

-- the numbers with a space between them
unfoldable pub with_numbers : Gathered → List ℕ → Gathered
with_numbers g [] = g
with_numbers g (x ∷ xs) = with_list (with_number g x) xs

-- "refused N"
abbrev pub with_refusal : Gathered → ℕ → Gathered
with_refusal g k = with_number (with_text g (114 ∷ 101 ∷ 102 ∷ 117 ∷ 115 ∷ 101 ∷ 100 ∷ 32 ∷ [])) k

-- a value, "none", "ok" or "refused N"
abbrev pub with_answer : Gathered → Answer → Gathered
with_answer g (value x) = with_number g x
with_answer g none = with_text g (110 ∷ 111 ∷ 110 ∷ 101 ∷ [])
with_answer g done = with_text g (111 ∷ 107 ∷ [])
with_answer g (refused k) = with_refusal g k

-- an answer, or "bad command"
abbrev pub with_says : Gathered → Says → Gathered
with_says g (answers a) = with_answer g a
with_says g bad = with_text g (98 ∷ 97 ∷ 100 ∷ 32 ∷ 99 ∷ 111 ∷ 109 ∷ 109 ∷ 97 ∷ 110 ∷ 100 ∷ [])
with_says g unknown = with_text g (98 ∷ 97 ∷ 100 ∷ 32 ∷ 99 ∷ 111 ∷ 109 ∷ 109 ∷ 97 ∷ 110 ∷ 100 ∷ [])
