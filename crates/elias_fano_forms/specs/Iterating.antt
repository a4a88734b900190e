-- What an iterator demands and leaves. i is an image. Assumes nothing.
use Rattle.std.specs.Prelude.{◌≡◌, List, false, ℕ, Ok, Err, Result, Option}
use Rattle.errors.specs.Answer.{of_option}
use Rattle.errors.specs.Refusal.{number_of}
use Rattle.errors.specs.declared.Refusal.{Refusal}
use Rattle.elias_fano.specs.Accept.{accepted}
use Rattle.elias_fano_walk.specs.Walking.{WalkOver, Walked}
use Rattle.elias_fano_forms.specs.declared.iter.Iter.{Iter}

-- what a start finds: the iterator over these words from the value with the number k on, or 7 where they are not accepted
abbrev pub Starts : List ℕ → ℕ → Result Iter Refusal → Type 0
Starts i k (Ok it) = (it.image.words.now ≡ i) × WalkOver i it.image.parts it.walk × (it.walk.number ≡ k)
Starts i k (Err e) = (accepted i ≡ false) × (number_of e ≡ 7)

-- what a step leaves: its answer, and the number of the next value
abbrev pub of_moved : Option ℕ → Iter → Walked
of_moved v it = record { answer = of_option v; number = it.walk.number }
