-- What the search in an opened image demands, and what its halving finds. i is an image. Assumes nothing.
use Rattle.std.specs.Prelude.{◌≡◌, List, ℕ, ◌+◌, ◌-◌, ◌≤◌, ◌<◌, length, get_or, Some}
use Rattle.broadword.specs.Places.{select}
use Rattle.elias_fano.specs.declared.image.Parts.{Parts}
use Rattle.elias_fano.specs.Accept.{times}
use Rattle.elias_fano.specs.Opening.{OneAt}
use Rattle.elias_fano_walk.specs.declared.search.Section.{Section}

-- a range of its values that is not empty
pub record Range (p : Parts) (a b : ℕ) : Type 0 where
  pub some : a < b
  pub upto : b ≤ p.num_pushed

-- a number of the range from a on and below b; the ones of the range before it, of the bits f, have fewer than h zeros before them
pub record HighStart (f : ℕ → ℕ) (len h a b r : ℕ) : Type 0 where
  pub from : a ≤ r
  pub upto : r < b
  pub less : (j x : ℕ) → j < r → a ≤ j → select f len j ≡ Some x → x < j + h

-- n ones stand right before the place x, after a zero
pub record OnesBefore (f : ℕ → ℕ) (x n : ℕ) : Type 0 where
  pub upto : n < x
  pub zero_at : f (x - n - 1) ≡ 0
  pub ones : (j : ℕ) → j < n → f (x - n + j) ≡ 1

-- a section of the range from a on and below b; the ones of the range after it have more than h zeros before them
pub record HighSection (f : ℕ → ℕ) (len h a b : ℕ) (s : Section) : Type 0 where
  pub start : HighStart f len h a b s.number
  pub at : select f len s.number ≡ Some s.place
  pub some : s.number < s.end
  pub upto : s.end ≤ b
  pub more : (j x : ℕ) → s.end ≤ j → j < b → select f len j ≡ Some x → j + h < x

-- a number of the range from a on and below b; the values of the range before it are below v
pub record ScanStart (T : List ℕ) (a b v r : ℕ) : Type 0 where
  pub from : a ≤ r
  pub upto : r < b
  pub less : (j : ℕ) → j < r → a ≤ j → get_or T j 0 < v

-- a section of the range; the values of the range after it are above v
pub record ScanSection (i : List ℕ) (p : Parts) (a b v : ℕ) (s : Section) : Type 0 where
  pub start : ScanStart (times i) a b v s.number
  pub at : OneAt i p s.number s.place
  pub some : s.number < s.end
  pub upto : s.end ≤ b
  pub above : (j : ℕ) → s.end ≤ j → j < b → v < get_or (times i) j 0

-- the values before the number k are below v
abbrev pub AllBelow : List ℕ → ℕ → ℕ → Type 0
AllBelow T v k = (j : ℕ) → j < k → get_or T j 0 < v

-- k is the number of the first value that is not below v, or how many there are
pub record FirstFrom (T : List ℕ) (v k : ℕ) : Type 0 where
  pub upto : k ≤ length T
  pub less : AllBelow T v k
  pub first : k < length T → v ≤ get_or T k 0
