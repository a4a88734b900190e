-- Laws of what gathers in the output buffer. Assumes nothing.
use mathlib.Core.Path.{◌≡◌, refl, sym, ap, ◌∙◌}
use mathlib.Core.List.{List, [], ◌∷◌}
use Prim.Native.Nat.{ℕ, ◌+◌, ◌-◌, ◌≤◌, ◌<◌}
use native.Mathlib.Numerals.{add-one}
use native.Mathlib.Omega.{arith}
use lib.ListN.{length, take, drop, get_or, set, drop_of_length-le}
use lib.Seq.{drop-cons, take_all}
use lib.Dec.{ltb, leb}
use mathlib.Core.Bool.{Bool, true, false, cond}
use borrow.Author.Tests.{lt-ltb, le-ltb, ltb-true, ltb-false}
use Rattle.decimal.specs.Decimal.{Left, left, write_of, text_of, over}
use Rattle.std.proofs.lemmas.Option.{none-some}
use Rattle.decimal.proofs.Writing.{text_short}
use Rattle.std.specs.Prelude.{Option, Some, None, unwrap_or}
use Rattle.console_text.specs.Gathered.{Gathered, gathered, with_byte, with_text, room_at, with_room, of_left, with_number, with_list, with_numbers}

pub byte_put : (g h : Gathered) (b : ℕ) → g.at ≤ 65536 → h ≡ with_room 1 g → gathered (h.at + 1) (set h.bytes h.at b) ≡ with_byte g b
unfolding with_byte
byte_put g h b i e = ap (λ (j : Gathered). gathered (j.at + 1) (set j.bytes j.at b)) e ∙ by (ltb g.at 65536) refl
  where
    by : (t : Bool) → ltb g.at 65536 ≡ t → gathered (room_at 1 g.at + 1) (set g.bytes (room_at 1 g.at) b) ≡ cond t (gathered (g.at + 1) (set g.bytes g.at b)) (gathered 1 (set g.bytes 0 b))
    by true f = let l : g.at ≤ 65535 = omega (arith, ltb-true g.at 65536 f) in simp (le-ltb 65535 g.at l)
    by false f = let l : 65535 < g.at = omega (arith, ltb-false g.at 65536 f) in simp (lt-ltb 65535 g.at l)

module _ (g : Gathered) (s : List ℕ) (i : ℕ) where
  pub text_more : i < length s → with_text g (drop i s) ≡ with_text (with_byte g (get_or s i 0)) (drop (i + 1) s)
  unfolding with_text
  text_more h = rw (add-one, drop-cons s i 0)

  pub text_done : length s ≤ i → with_text g (drop i s) ≡ g
  unfolding with_text
  text_done h = rw (drop_of_length-le s h)

  pub list_more : i < length s → with_list g (drop i s) ≡ with_list (with_number (with_byte g 32) (get_or s i 0)) (drop (i + 1) s)
  unfolding with_list
  list_more h = rw (add-one, drop-cons s i 0)

  pub list_done : length s ≤ i → with_list g (drop i s) ≡ g
  unfolding with_list
  list_done h = rw (drop_of_length-le s h)

-- what a write of x where there is room leaves, o, with its answer w
pub number_written : (g h : Gathered) (x : ℕ) (o : List ℕ) (w : Option ℕ) → h ≡ with_room 20 g → left w o ≡ write_of x h.bytes h.at → gathered (unwrap_or w h.at) o ≡ with_number g x
unfolding with_number
number_written g h x o w e f = ap (of_left h.at) f ∙ ap (λ (j : Gathered). of_left j.at (write_of x j.bytes j.at)) e

-- a write where there is room ends within the buffer
pub written_within : (x : ℕ) (l : List ℕ) (at e : ℕ) (o : List ℕ) → at + 20 ≤ 65536 → left (Some e) o ≡ write_of x l at → e ≤ 65536
unfolding write_of
written_within x l at e o r h = by (leb (at + length (text_of x)) (length l)) (ap (λ (f : Left). f.answer) h)
  where
    by : (b : Bool) → Some e ≡ (cond b (left (Some (at + length (text_of x))) (over (text_of x) l at)) (left None l)).answer → e ≤ 65536
    by true k = let d : e ≡ at + length (text_of x) = ap (λ (o : Option ℕ). unwrap_or o 0) k in let m = text_short x in omega arith
    by false k = absurd (none-some e (sym k))

pub numbers_none : (g : Gathered) (xs : List ℕ) → length xs ≡ 0 → with_numbers g xs ≡ g
unfolding with_numbers
numbers_none g [] h = refl
numbers_none g (x ∷ xs) h = absurd (omega arith)

pub numbers_some : (g : Gathered) (xs : List ℕ) → (length xs ≡ 0 → ⊥) → with_numbers g xs ≡ with_list (with_number g (get_or xs 0 0)) (take (length xs - 1) (drop 1 xs))
unfolding with_numbers
numbers_some g [] h = absurd (h refl)
numbers_some g (x ∷ xs) h = ap (with_list (with_number g x)) (sym (take_all (length (x ∷ xs) - 1) xs (omega arith)))
