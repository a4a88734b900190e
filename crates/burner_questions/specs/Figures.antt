-- The figures of a span that are computed from its number of starts, the first and the last. Assumes nothing.
use Rattle.std.specs.Prelude.{cond, ℕ, zero, suc, ◌-◌, ◌*◌, ◌/◌, ltb, leb}

-- whole seconds from one start to the next on the average, 0 where there are not two
abbrev pub mean_gap : ℕ → ℕ → ℕ → ℕ
mean_gap starts first last = cond (ltb starts 2) 0 ((last - first) / (starts - 1))

abbrev pub at_least_one : ℕ → ℕ
at_least_one zero = 1
at_least_one (suc k) = suc k

-- 40 for the most starts, the others in proportion, and one at least where there is a start
abbrev pub bar_len : ℕ → ℕ → ℕ
bar_len starts most =
    cond (ltb starts 1) 0 (cond (leb most starts) 40 (at_least_one (starts * 40 / most)))
