-- The console's prefix sums, and the record of its bits: what each command says, writes or leaves. i is the image, r the command's numbers, g what has gathered before, w are the
-- buffer's words, s is what is held. Assumes nothing.
use Rattle.std.specs.Prelude.{Bool, cond, ◌&&◌, List, [], ◌∷◌, ℕ, zero, suc, eqb, ltb, leb, Option, Some, None, codes}
use Rattle.errors.specs.Answer.{Answer, refused, Outcome}
use Rattle.elias_fano_from_bits.specs.FromBits.{from_bits_of}
use Rattle.prefix_summed_elias_fano.specs.Items.{askable}
use Rattle.prefix_summed_elias_fano.specs.Sums.{from_slice_of, access_of, len_of}
use Rattle.console_text.specs.declared.line.Arguments.{Arguments}
use Rattle.console_text.specs.Gathered.{Gathered, with_byte, with_answer, with_says}
use Rattle.console_text.specs.Line.{same_text, numbers_from, values_of}
use Rattle.console_text.specs.Says.{Says, answers, bad, unknown}
use Rattle.console_questions.specs.Questions.{with_answers}
use Rattle.console_record.specs.declared.Record.{Record}
use Rattle.console_record.specs.Section.{Turn, turn, image_after, within_of}
use Rattle.console_sums.specs.declared.Command.{Command}
use Rattle.console_sums.specs.declared.Command.TheVariants.{Len, Access}

-- ---- `sums_len`, `sums_access P`

abbrev pub command_named : List ℕ → Option Command
command_named name =
    cond (same_text name (codes "sums_len")) (Some Len)
    (cond (same_text name (codes "sums_access")) (Some Access) None)

-- how many numbers each takes
abbrev pub fits_of : Command → Arguments → Bool
fits_of Len r = eqb r.n 0
fits_of Access r = eqb r.n 1

abbrev pub asked_of : Command → Arguments → List ℕ → Answer
asked_of Len r i = len_of i
asked_of Access r i = access_of i r.a

abbrev pub command_of : Option Command → Arguments → List ℕ → Says
command_of None r i = unknown
command_of (Some c) r i = cond (fits_of c r) (answers (asked_of c r i)) bad

abbrev pub answer_of : List ℕ → Arguments → List ℕ → Says
answer_of name r i = command_of (command_named name) r i

-- ---- `sums_walk COUNT`

-- the items from the place j on
unfoldable pub accesses_of : List ℕ → ℕ → ℕ → List Answer
accesses_of i j zero = []
accesses_of i j (suc count) = access_of i j ∷ accesses_of i (suc j) count

-- 7 is decided first, also for a count of 0
unfoldable pub walk_items_of : List ℕ → ℕ → Gathered → Gathered
walk_items_of i count g = cond (askable i) (with_answers g (accesses_of i 0 count)) (with_answer g (refused 7))

-- a count that fits
abbrev pub fits_count_of : Arguments → Bool
fits_count_of r = eqb r.n 1 && leb r.a 4096

-- where all the words after the name are numbers
abbrev pub listed_of : Option Arguments → List ℕ → Gathered → Gathered
listed_of None i g = with_says g bad
listed_of (Some r) i g = cond (fits_count_of r) (walk_items_of i r.a g) (with_says g bad)

abbrev pub line_of : Option Arguments → List ℕ → Gathered → Gathered
line_of r i g = with_byte (listed_of r i g) 10

-- ---- a record by one call

-- the words of an accepted one are the image from then on
abbrev pub of_whole : Record → Outcome → Turn
of_whole s o = turn (answers o.answer) (image_after o.answer s) o.words

-- of what is done with the lent words; the others stay
abbrev pub whole_within : (List ℕ → Outcome) → Record → List ℕ → Turn
whole_within f s w = within_of (λ t l. of_whole t (f l)) s w

-- `sums X..`, of the words fs after the name, whose numbers are r
abbrev pub summed_of : Option Arguments → List (List ℕ) → Record → List ℕ → Turn
summed_of None fs s w = turn bad s w
summed_of (Some r) fs s w = cond (leb r.n 32768) (whole_within (from_slice_of (values_of fs)) s w) (turn bad s w)

abbrev pub sums_of : List (List ℕ) → Record → List ℕ → Turn
sums_of fs s w = summed_of (numbers_from 0 0 0 0 0 fs) fs s w

abbrev pub fits_choice_of : Arguments → Bool
fits_choice_of r = eqb r.n 1 && ltb r.a 2

-- `from_bits C`, of the bits ws with the length len
abbrev pub from_bits_answer : List ℕ → Arguments → List ℕ → ℕ → Record → List ℕ → Turn
from_bits_answer name r ws len s w =
    cond (same_text name (codes "from_bits"))
    (cond (fits_choice_of r) (whole_within (from_bits_of ws len (eqb r.a 1)) s w) (turn bad s w))
    (turn unknown s w)
