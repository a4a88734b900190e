-- The cases of `invalid`, and what a vector that is not invalid has. Assumes nothing.
use Rattle.std.specs.Prelude.{Result, Err, IsErrAnd}
use Rattle.errors.specs.declared.Refusal.{Refusal}
use Rattle.errors.specs.declared.Refusal.TheVariants.{InvalidBits}
use Rattle.errors.proofs.Passing.{refused_so}
use mathlib.Core.Path.{◌≡◌, sym, ap, ◌∙◌}
use mathlib.Core.List.{List}
use mathlib.Core.Bool.{true, false, not}
use Prim.Native.Nat.{ℕ, ◌/◌, ◌%◌, ◌^◌, ◌≤◌, ◌<◌}
use native.Mathlib.Decide.{dec_le}
use native.Mathlib.Nat.{lt_of_not-le}
use borrow.Author.Tests.{le-ltb, lt-ltb, eq-eqb, ne_eqb, eqb-true, not-false}
use lib.Dec.{eqb}
use lib.ListN.{length, get_or}
use Rattle.broadword.proofs.Truth.{true_false}
use Rattle.bit_words.specs.Vector.{words_for, padding, invalid}

module _ (ws : List ℕ) (len : ℕ) where
  pub short : length ws < words_for len → invalid ws len ≡ true
  unfolding invalid
  short h = simp (lt-ltb _ _ h)

  pub whole : words_for len ≤ length ws → len % 64 ≡ 0 → invalid ws len ≡ false
  unfolding invalid padding
  whole h e = simp (le-ltb _ _ h, eq-eqb _ _ e)

  pub part : words_for len ≤ length ws → (len % 64 ≡ 0 → ⊥) → invalid ws len ≡ not (eqb (get_or ws (len / 64) 0 / 2 ^ (len % 64)) 0)
  unfolding invalid padding
  part h e = simp (le-ltb _ _ h, ne_eqb _ _ e)

-- what a vector that is not refused with 13 has
pub record Valid (ws : List ℕ) (len : ℕ) : Type 0 where
  pub room : words_for len ≤ length ws
  pub clear : (len % 64 ≡ 0 → ⊥) → get_or ws (len / 64) 0 / 2 ^ (len % 64) ≡ 0

pub valid : (ws : List ℕ) (len : ℕ) → invalid ws len ≡ false → Valid ws len
valid ws len e = record { room = enough (dec_le (words_for len) (length ws)); clear = λ n. zero n (dec_le (words_for len) (length ws)) }
  where
    enough : Dec (words_for len ≤ length ws) → words_for len ≤ length ws
    enough (yes l) = l
    enough (no g) = absurd (true_false (sym (short ws len (lt_of_not-le g)) ∙ e))

    zero : (len % 64 ≡ 0 → ⊥) → Dec (words_for len ≤ length ws) → get_or ws (len / 64) 0 / 2 ^ (len % 64) ≡ 0
    zero n (yes l) = eqb-true _ _ (not-false (eqb (get_or ws (len / 64) 0 / 2 ^ (len % 64)) 0) (sym (part ws len l n) ∙ e))
    zero n (no g) = absurd (true_false (sym (short ws len (lt_of_not-le g)) ∙ e))

-- the refusal of no bit vector, handed on
pub refused_bits : {A : Type 0} (r : Result A Refusal) (e : Refusal) → IsErrAnd r (λ x. x ≡ e) → e ≡ InvalidBits → r ≡ Err InvalidBits
refused_bits r e h q = refused_so r e h ∙ ap Err q
