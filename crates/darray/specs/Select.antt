-- What select through the index demands, and how an entry is read. Assumes nothing.
use Rattle.std.specs.Prelude.{◌≡◌, List, Bool, false, cond, ℕ, ◌-◌, ◌^◌, ◌<◌, ltb, length}
use Rattle.bit_words.specs.Vector.{invalid}
use Rattle.darray_positions.specs.Index.{index_words}
use Rattle.darray_positions.specs.Positions.{positions}
use Rattle.darray.specs.declared.select.Entry.{Entry}
use Rattle.darray.specs.declared.select.Entry.TheVariants.{First, Overflow}

-- an entry is a word in two's complement; a negative entry e points at the overflow place -e - 1
abbrev pub entry_of : ℕ → Entry
entry_of w = cond (ltb w (2 ^ 63)) (First w) (Overflow (2 ^ 64 - 1 - w))

-- the index is that of the bits, which are fewer than 2^63, and n is how many positions it has
pub record Indexed (ws : List ℕ) (len : ℕ) (b : Bool) (index : List ℕ) (n : ℕ) : Type 0 where
  pub ok : invalid ws len ≡ false
  pub short : len < 2 ^ 63
  pub is : index ≡ index_words (positions b ws len)
  pub number : n ≡ length (positions b ws len)
