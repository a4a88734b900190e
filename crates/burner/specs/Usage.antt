-- The commands: their order, and the arguments that each takes. Assumes nothing.
use Rattle.std.specs.Prelude.{List as ListOf, [], ◌∷◌, ℕ, zero, suc, Bool, ◌&&◌, ◌||◌, eqb, leb, Option, Some, None}
use Rattle.burner.specs.declared.usage.Command.{Command}
use Rattle.burner.specs.declared.usage.Command.TheVariants.{Log, Finish, Check, List, Ask, Winters, Limit}

-- `log finish check list ask winters limit`
abbrev pub names : ListOf ℕ
names =
    108 ∷ 111 ∷ 103 ∷ 32
    ∷ 102 ∷ 105 ∷ 110 ∷ 105 ∷ 115 ∷ 104 ∷ 32
    ∷ 99 ∷ 104 ∷ 101 ∷ 99 ∷ 107 ∷ 32
    ∷ 108 ∷ 105 ∷ 115 ∷ 116 ∷ 32
    ∷ 97 ∷ 115 ∷ 107 ∷ 32
    ∷ 119 ∷ 105 ∷ 110 ∷ 116 ∷ 101 ∷ 114 ∷ 115 ∷ 32
    ∷ 108 ∷ 105 ∷ 109 ∷ 105 ∷ 116 ∷ []

-- by its place among the names
abbrev pub command_at : ℕ → Option Command
command_at zero = Some Log
command_at (suc zero) = Some Finish
command_at (suc (suc zero)) = Some Check
command_at (suc (suc (suc zero))) = Some List
command_at (suc (suc (suc (suc zero)))) = Some Ask
command_at (suc (suc (suc (suc (suc zero))))) = Some Winters
command_at (suc (suc (suc (suc (suc (suc zero)))))) = Some Limit
command_at (suc (suc (suc (suc (suc (suc (suc k))))))) = None

-- the first argument that is a number
abbrev pub first_number_of : Command → Option ℕ
first_number_of Log = Some 3
first_number_of Finish = Some 4
first_number_of Check = None
first_number_of List = Some 3
first_number_of Ask = None
first_number_of Winters = Some 3
first_number_of Limit = Some 2

-- whether it takes n arguments, the program's and its own name among them
abbrev pub fits_of : Command → ℕ → Bool
fits_of Log n = eqb n 5 || eqb n 6
fits_of Finish n = eqb n 5
fits_of Check n = eqb n 3
fits_of List n = leb 3 n && leb n 5
fits_of Ask n = leb 4 n
fits_of Winters n = leb 5 n && leb n 1003
fits_of Limit n = eqb n 5
