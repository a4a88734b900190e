-- Which paths a file may have, and what loading promises. Assumes nothing.
use Rattle.std.specs.Prelude.{List, ℕ, ◌+◌, ◌<◌, ◌≤◌, length, Result, IfOk}
use Rattle.word_files.specs.declared.LoadError.{LoadError}

-- a path is not empty, and not too long with a suffix of so many bytes
abbrev pub PathFits : List ℕ → ℕ → Type 0
PathFits path suffix = (0 < length path) × (length path + suffix ≤ 4095)

-- as many words as were lent, at most
abbrev pub Within : ℕ → Result ℕ LoadError → Type 0
Within len r = IfOk r (λ n. n ≤ len)
