-- `bit_words::window` meets its contract.
-- Assumes nothing.
use mathlib.Core.Path.{◌≡◌, sym, ap, ◌∙◌, subst⁻¹}
use mathlib.Core.List.{List}
use Prim.Native.Nat.{ℕ, ◌+◌, ◌-◌, ◌*◌, ◌/◌, ◌%◌, ◌^◌, ◌≤◌, ◌<◌}
use native.Mathlib.Nat.{le_trans, le_of_eq}
use native.Mathlib.Omega.{arith}
use lib.Bits.{bit_or}
use lib.ListN.{length, get_or, take}
use lib.Seq.{get_or-take, length-take-le}
use Rattle.broadword.specs.Fields.{word}
use Rattle.bit_words.specs.Vector.{bit_at}
use Rattle.bit_words.proofs.Runs.{Fit, get_d_past}
use Rattle.bit_words.proofs.Windows.{window_is, window_or, window_last, two_shifts}
use Rattle.bit_words.proofs.window.Goals as goal

-- the window over the first `used` words, by the words themselves
module _ (ws : List ℕ) (used pos : ℕ) (fit : Fit ws) (l : pos / 64 < used) (room : used ≤ length ws) where
  abbrev W : ℕ
  W = word 1 (λ i. bit_at (take used ws) (pos + i)) 64

  here : get_or (take used ws) (pos / 64) 0 ≡ get_or ws (pos / 64) 0
  here = get_or-take used ws (pos / 64) 0 l

  is : W ≡ (get_or (take used ws) (pos / 64 + 1) 0 * 2 ^ 64 + get_or ws (pos / 64) 0) / 2 ^ (pos % 64) % 2 ^ 64
  is =
      window_is (take used ws) pos (subst⁻¹ (λ (y : ℕ). y < 2 ^ 64) here (fit (pos / 64)))
      ∙ ap (λ (y : ℕ). (get_or (take used ws) (pos / 64 + 1) 0 * 2 ^ 64 + y) / 2 ^ (pos % 64) % 2 ^ 64) here

  last : used ≤ pos / 64 + 1 → get_or ws (pos / 64) 0 / 2 ^ (pos % 64) ≡ W
  last h =
      let e : get_or (take used ws) (pos / 64 + 1) 0 ≡ 0 = get_d_past (take used ws) (pos / 64 + 1) (le_trans (le_of_eq (length-take-le used ws room)) h) in
      window_last (pos % 64) (get_or ws (pos / 64) 0) (fit (pos / 64))
      ∙ ap (λ (y : ℕ). (y * 2 ^ 64 + get_or ws (pos / 64) 0) / 2 ^ (pos % 64) % 2 ^ 64) (sym e) ∙ sym is

  both : pos / 64 + 1 < used → bit_or (get_or ws (pos / 64) 0 / 2 ^ (pos % 64)) (((get_or ws (pos / 64 + 1) 0 * 2) % 2 ^ 64 * 2 ^ (63 - pos % 64)) % 2 ^ 64) ≡ W
  both h =
      ap (bit_or (get_or ws (pos / 64) 0 / 2 ^ (pos % 64))) (two_shifts (get_or ws (pos / 64 + 1) 0) (pos % 64) (omega arith))
      ∙ window_or (pos % 64) (omega arith) (get_or ws (pos / 64 + 1) 0) (get_or ws (pos / 64) 0) (fit (pos / 64))
      ∙ ap (λ (y : ℕ). (y * 2 ^ 64 + get_or ws (pos / 64) 0) / 2 ^ (pos % 64) % 2 ^ 64) (sym (get_or-take used ws (pos / 64 + 1) 0 h)) ∙ sym is

pub returns-then-used-at : goal.returns-then-used-at
returns-then-used-at c =
    last c.args.words.now c.args.used c.args.pos (λ i. (c.shared_slice_known-1.given i).fits) c.requires.0 c.requires.1 c.if-used-at.true

pub returns : goal.returns
returns c =
    both c.args.words.now c.args.used c.args.pos (λ i. (c.shared_slice_known-2-1.given i).fits) c.requires.0 c.requires.1 c.if-used-at.false
