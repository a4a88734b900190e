-- Laws of columns: a byte again and again, and how many digits a number has. Assumes nothing.
use mathlib.Core.Path.{◌≡◌, refl, sym, ap, ◌∙◌}
use mathlib.Core.List.{List}
use Prim.Native.Nat.{ℕ, suc, ◌+◌, ◌≤◌}
use native.Mathlib.Nat.{zero-add}
use native.Mathlib.Omega.{arith}
use lib.ListN.{length, replicate}
use Rattle.decimal.specs.Decimal.{num_digits, Left, left, write_of}
use Rattle.std.specs.Prelude.{Option}
use Rattle.std.specs.Option.{unwrap_or}
use Rattle.decimal.proofs.Writing.{places_few, write_some}
use Rattle.console_text.specs.Gathered.{Gathered, with_byte, with_text}

module _ (g : Gathered) (b n : ℕ) where
  pub again_more : (k : ℕ) → n ≡ suc k → with_text g (replicate n b) ≡ with_text (with_byte g b) (replicate k b)
  unfolding with_text
  again_more k e = rw e

  pub again_done : n ≤ 0 → with_text g (replicate n b) ≡ g
  unfolding with_text
  again_done h = let e : n ≡ 0 = omega arith in rw e

-- where a write of x to the front of 20 bytes ends
pub digits_written : (x : ℕ) (l o : List ℕ) (w : Option ℕ) → 20 ≤ length l → left w o ≡ write_of x l 0 → unwrap_or w 20 ≡ num_digits 19 x
digits_written x l o w h e =
    let room : 0 + num_digits 19 x ≤ length l = omega (arith, places_few 19 x) in
    ap (λ (r : Left). unwrap_or r.answer 20) (e ∙ sym (write_some x l 0 (num_digits 19 x) refl _ room refl))
    ∙ zero-add (num_digits 19 x)
