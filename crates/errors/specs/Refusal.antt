-- The refusals' numbers, document 01, "Refusals with an example"; 17 is document 02 (vi).
use Rattle.std.specs.Prelude.{ℕ}
use Rattle.errors.specs.declared.Refusal.{Refusal}
use Rattle.errors.specs.declared.Refusal.TheVariants.{NoValues, TooMany, ShortBuffer, Decreasing, OutOfUniverse, Full, Invalid, NoRankIndex, RangeOutOfBounds, NoBits, NoOnes, SumTooLarge, InvalidBits, WideBits, NoRoom, OutOfBounds, InvalidWindows}

abbrev pub number_of : Refusal → ℕ
number_of NoValues = 1
number_of TooMany = 2
number_of ShortBuffer = 3
number_of Decreasing = 4
number_of OutOfUniverse = 5
number_of Full = 6
number_of Invalid = 7
number_of NoRankIndex = 8
number_of RangeOutOfBounds = 9
number_of NoBits = 10
number_of NoOnes = 11
number_of SumTooLarge = 12
number_of InvalidBits = 13
number_of WideBits = 14
number_of NoRoom = 15
number_of OutOfBounds = 16
number_of InvalidWindows = 17
