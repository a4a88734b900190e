-- The rule of DEBRUIJN64_MAPPING is a test at each of the 64 places, which antt computes. Assumes nothing.
use mathlib.Core.List.{List, [], ◌∷◌}
use Prim.Native.Nat.{ℕ, ◌*◌, ◌/◌, ◌%◌, ◌^◌}
use lib.ListN.{get_or}
use Rattle.broadword.specs.Places.{Debruijn64}
use Rattle.broadword.proofs.Table.{each_eq}

-- as they stand in src/tables.rt
unfoldable pub entries : List ℕ
entries =
    63 ∷ 0 ∷ 58 ∷ 1 ∷ 59 ∷ 47 ∷ 53 ∷ 2 ∷ 60 ∷ 39 ∷ 48 ∷ 27 ∷ 54 ∷ 33 ∷ 42 ∷ 3 ∷ 61 ∷ 51 ∷ 37 ∷ 40 ∷ 49 ∷ 18 ∷ 28 ∷ 20 ∷ 55 ∷ 30 ∷ 34 ∷ 11 ∷ 43 ∷ 14 ∷ 22 ∷ 4 ∷ 62 ∷ 57 ∷ 46 ∷ 52 ∷ 38 ∷ 26 ∷ 32 ∷ 41 ∷ 50 ∷ 36 ∷ 17 ∷ 19 ∷ 29 ∷ 10 ∷ 13 ∷ 21 ∷ 56 ∷ 45 ∷ 25 ∷ 31 ∷ 35 ∷ 16 ∷ 9 ∷ 12 ∷ 44 ∷ 24 ∷ 15 ∷ 8 ∷ 23 ∷ 7 ∷ 6 ∷ 5 ∷ []

pub ruled : Debruijn64 entries
unfolding entries
ruled k h = each_eq (λ i. get_or entries ((0x07ED_D5E5_9A4E_28C2 * 2 ^ i) % 2 ^ 64 / 2 ^ 58) 0) (λ i. i) 64 tt k h
