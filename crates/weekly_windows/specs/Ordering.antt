-- What the functions inside the crate demand and find: windows in order, as the seconds of the week where inside and outside change. Assumes nothing.
use Rattle.std.specs.Prelude.{◌≡◌, List, [], ◌∷◌, true, cond, ℕ, suc, ◌*◌, ◌%◌, ◌≤◌, ◌<◌, min, max, ltb, length, get_or, take, Option, Some, None}
use Rattle.elias_fano_words.specs.Times.{rising}
use Rattle.weekly_windows.specs.Windows.{week}
use Rattle.weekly_windows.specs.declared.order.Met.{Met}

-- the window from x to y meets the next of some windows in order, from c to d: the first of the two is done with, or both are joined
abbrev pub met : Option (ℕ × ℕ) → ℕ → ℕ → Met
met done x y = record { done = done; x = x; y = y }

unfoldable pub met_of : ℕ → ℕ → ℕ → ℕ → Met
met_of x y c d = cond (ltb d x) (met (Some (c, d)) x y) (cond (ltb y c) (met (Some (x, y)) c d) (met None (min x c) (max y d)))

-- the window from x to y among windows in order; windows that touch are joined
unfoldable pub inserted : ℕ → ℕ → List ℕ → List ℕ
inserted x y [] = x ∷ y ∷ []
inserted x y (c ∷ []) = x ∷ y ∷ []
inserted x y (c ∷ d ∷ ws) = cond (ltb d x) (c ∷ d ∷ inserted x y ws) (cond (ltb y c) (x ∷ y ∷ inserted c d ws) (inserted (min x c) (max y d) ws))

-- the windows ws, one after the other, among those of o
unfoldable pub joined : List ℕ → List ℕ → List ℕ
joined o [] = o
joined o (a ∷ []) = o
joined o (a ∷ b ∷ ws) = joined (inserted a b o) ws

-- the first n words are windows in order, and the end of the week stands after them
pub record Ordered (cuts : List ℕ) (n : ℕ) : Type 0 where
  pub few : n ≤ 64
  pub even : n % 2 ≡ 0
  pub long : length cuts ≡ 65
  pub rises : rising (suc week) 0 (take n cuts) ≡ true
  pub top : get_or cuts n 0 ≡ week

-- the first k are at or below r
abbrev pub AllUpto : List ℕ → ℕ → ℕ → Type 0
AllUpto cuts r k = (j : ℕ) → j < k → get_or cuts j 0 ≤ r

-- and no later one is
pub record CutsUpto (cuts : List ℕ) (n r k : ℕ) : Type 0 where
  pub few : k ≤ n
  pub before : AllUpto cuts r k
  pub after : (j : ℕ) → k ≤ j → j < n → r < get_or cuts j 0

-- for each part of the week of 4,096 seconds, as many as are at or below its first second, at most
abbrev pub PartStarts : List ℕ → ℕ → List ℕ → Type 0
PartStarts cuts n first = (q : ℕ) → q < 148 → (get_or first q 0 ≤ n) × AllUpto cuts (q * 4096) (get_or first q 0)
