-- What the functions inside the crate demand and find: times that are not below a number, and a summary of a time and those after it. Assumes nothing.
use Rattle.std.specs.Prelude.{List, ℕ, zero, suc, ◌≤◌, ◌<◌, length, get_or}
use Rattle.winters.specs.declared.Summary.{Summary}

-- no time of T is below x
abbrev pub NoneBelow : ℕ → List ℕ → Type 0
NoneBelow x T = (j : ℕ) → j < length T → x ≤ get_or T j 0

abbrev pub summary : ℕ → ℕ → ℕ → ℕ → Summary
summary n first last gap = record { count = n; first = first; last = last; gap = gap }

-- a time and n others after it; one time alone has no gap
abbrev pub with_others : ℕ → ℕ → ℕ → ℕ → Summary
with_others first zero last gap = summary 1 first last 0
with_others first (suc n) last gap = summary (suc (suc n)) first last gap
