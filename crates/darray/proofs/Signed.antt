-- An entry that is read as a place or as a first position. Assumes nothing.
use Rattle.std.proofs.Common.{◌≡◌, ap, Bool, cond, ℕ, ◌-◌, ◌^◌, ◌≤◌, ◌<◌}
use borrow.Author.Tests.{le-ltb, lt-ltb}
use Rattle.darray.specs.Select.{entry_of}
use Rattle.darray.specs.declared.select.Entry.TheVariants.{First, Overflow}

module _ (w : ℕ) (h : w < 2 ^ 64) where
  pub entry_low : w < 2 ^ 63 → entry_of w ≡ First w
  entry_low l = ap (λ (t : Bool). cond t (First w) (Overflow (2 ^ 64 - 1 - w))) (lt-ltb w (2 ^ 63) l)

  pub entry_high : 2 ^ 63 ≤ w → entry_of w ≡ Overflow (2 ^ 64 - 1 - w)
  entry_high l = ap (λ (t : Bool). cond t (First w) (Overflow (2 ^ 64 - 1 - w))) (le-ltb w (2 ^ 63) l)
