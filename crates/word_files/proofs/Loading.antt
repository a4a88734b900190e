-- Laws of what reading and loading answer. Assumes nothing.
use mathlib.Core.Path.{◌≡◌, subst}
use Prim.Native.Nat.{ℕ, ◌≤◌}
use native.Mathlib.Nat.{le_trans}
use Rattle.std.specs.Prelude.{Result, Ok, Err, IfOk}
use Rattle.word_files.specs.Files.{Within}
use Rattle.word_files.specs.declared.LoadError.{LoadError}

pub fits_bytes : {E : Type 0} (r : Result ℕ E) (len n : ℕ) → r ≡ Ok n → IfOk r (λ k. k ≤ len) → n ≤ len
fits_bytes {E} r len n e h = subst (λ (x : Result ℕ E). IfOk x (λ k. k ≤ len)) e h

pub within-words : (r : Result ℕ LoadError) (len n : ℕ) → r ≡ Ok n → Within len r → n ≤ len
within-words r len n e h = subst (Within len) e h

-- within fewer words is within more
pub within_more : (r : Result ℕ LoadError) (k len : ℕ) → k ≤ len → Within k r → Within len r
within_more (Ok n) k len l h = le_trans h l
within_more (Err x) k len l h = tt
