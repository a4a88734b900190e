-- What opening words as an image finds. Assumes nothing.
use Rattle.std.specs.Prelude.{◌≡◌, List, ℕ, Ok, Err, Result}
use Rattle.errors.specs.Refusal.{number_of}
use Rattle.errors.specs.declared.Refusal.{Refusal}
use Rattle.elias_fano.specs.Accept.{parts, unopened, open_of}
use Rattle.elias_fano.specs.declared.opened.Image.{Image}

-- the image of these words, or a refusal by its number
abbrev pub Opens : List ℕ → Result Image Refusal → Type 0
Opens w (Ok i) = (i.words.now ≡ w) × (parts i.parts ≡ open_of w)
Opens w (Err e) = unopened (number_of e) ≡ open_of w
