-- The console's questions over an image: what each says, or what it writes. i is the image, r the question's numbers, g what has gathered
-- before. Assumes nothing.
use Rattle.std.specs.Prelude.{Bool, cond, ◌&&◌, List, [], ◌∷◌, ℕ, zero, suc, eqb, ltb, leb, get_or, drop, replicate, Option, Some, None, codes}
use Rattle.errors.specs.Answer.{Answer, value, none, done, refused, Outcome}
use Rattle.elias_fano.specs.Accept.{Opening, parts, unopened, open_of, accepted}
use Rattle.elias_fano.specs.Ask.{Select, Delta, Rank, Predecessor, Successor, Binsearch, BinsearchRange, Next, Len, Universe, HasRank, nth, query, read_from_of}
use Rattle.elias_fano.specs.Steps.{limit_of}
use Rattle.weekly_windows.specs.Windows.{count_of}
use Rattle.console_text.specs.declared.line.Arguments.{Arguments}
use Rattle.console_text.specs.Gathered.{Gathered, with_byte, with_number, with_list, with_answer, with_says}
use Rattle.console_text.specs.Line.{same_text, numbers_from, values_of}
use Rattle.console_text.specs.Says.{Says, answers, bad, unknown}
use Rattle.console_questions.specs.declared.Command.{Command}
use Rattle.console_questions.specs.declared.Command.TheVariants as command
use Rattle.console_questions.specs.declared.Listing.{Listing}
use Rattle.console_questions.specs.declared.Listing.TheVariants as listing

-- ---- one answer

-- an opening says only that it is done
abbrev pub open_says : Opening → Answer
open_says (parts p) = done
open_says (unopened k) = refused k

-- `open`, `len`, `universe`, `has_rank`, `select K`, `delta K`, `rank T`, `predecessor V`, `successor V`, `search V`, `search_range A B V`, and
-- `limit U N C`, which needs no image
abbrev pub asked_of : Command → Arguments → List ℕ → Answer
asked_of command.Open r i = open_says (open_of i)
asked_of command.Len r i = query i Len
asked_of command.Universe r i = query i Universe
asked_of command.HasRank r i = query i HasRank
asked_of command.Select r i = query i (Select r.a)
asked_of command.Delta r i = query i (Delta r.a)
asked_of command.Rank r i = query i (Rank r.a)
asked_of command.Predecessor r i = query i (Predecessor r.a)
asked_of command.Successor r i = query i (Successor r.a)
asked_of command.Search r i = query i (Binsearch r.a)
asked_of command.SearchRange r i = query i (BinsearchRange r.a r.b r.c)
asked_of command.Limit r i = limit_of r.a r.b (eqb r.c 1)

-- how many numbers each takes, and which of them is a choice
abbrev pub fits_of : Command → Arguments → Bool
fits_of command.Open r = eqb r.n 0
fits_of command.Len r = eqb r.n 0
fits_of command.Universe r = eqb r.n 0
fits_of command.HasRank r = eqb r.n 0
fits_of command.Select r = eqb r.n 1
fits_of command.Delta r = eqb r.n 1
fits_of command.Rank r = eqb r.n 1
fits_of command.Predecessor r = eqb r.n 1
fits_of command.Successor r = eqb r.n 1
fits_of command.Search r = eqb r.n 1
fits_of command.SearchRange r = eqb r.n 3
fits_of command.Limit r = eqb r.n 3 && ltb r.c 2

abbrev pub command_named : List ℕ → Option Command
command_named name =
    cond (same_text name (codes "open")) (Some command.Open)
    (cond (same_text name (codes "len")) (Some command.Len)
    (cond (same_text name (codes "universe")) (Some command.Universe)
    (cond (same_text name (codes "has_rank")) (Some command.HasRank)
    (cond (same_text name (codes "select")) (Some command.Select)
    (cond (same_text name (codes "delta")) (Some command.Delta)
    (cond (same_text name (codes "rank")) (Some command.Rank)
    (cond (same_text name (codes "predecessor")) (Some command.Predecessor)
    (cond (same_text name (codes "successor")) (Some command.Successor)
    (cond (same_text name (codes "search")) (Some command.Search)
    (cond (same_text name (codes "search_range")) (Some command.SearchRange)
    (cond (same_text name (codes "limit")) (Some command.Limit) None)))))))))))

abbrev pub command_of : Option Command → Arguments → List ℕ → Says
command_of None r i = unknown
command_of (Some c) r i = cond (fits_of c r) (answers (asked_of c r i)) bad

abbrev pub answer_of : List ℕ → Arguments → List ℕ → Says
answer_of name r i = command_of (command_named name) r i

-- ---- `walk K COUNT`

-- each answer after a space
unfoldable pub with_each : Gathered → List Answer → Gathered
with_each g [] = g
with_each g (a ∷ l) = with_each (with_answer (with_byte g 32) a) l

-- the answers with a space between them
unfoldable pub with_answers : Gathered → List Answer → Gathered
with_answers g [] = g
with_answers g (a ∷ l) = with_each (with_answer g a) l

-- what a walk over the times T gives from the number k on
unfoldable pub nexts_from : List ℕ → ℕ → ℕ → List Answer
nexts_from T k zero = []
nexts_from T k (suc count) = nth T k ∷ nexts_from T (suc k) count

-- what a walk from k answers, from its j-th `next` on
unfoldable pub nexts_of : List ℕ → ℕ → ℕ → ℕ → List Answer
nexts_of i k j zero = []
nexts_of i k j (suc count) = query i (Next k j) ∷ nexts_of i k (suc j) count

-- 7 is decided first, also for a count of 0
unfoldable pub walk_of : List ℕ → ℕ → ℕ → Gathered → Gathered
walk_of i k count g = cond (accepted i) (with_answers g (nexts_of i k 0 count)) (with_answer g (refused 7))

-- ---- `read K COUNT`

-- how many times were read out, and then all the words
abbrev pub with_words : Answer → List ℕ → Gathered → Gathered
with_words (value n) w g = with_list (with_number g n) w
with_words none w g = with_answer g none
with_words done w g = with_answer g done
with_words (refused k) w g = with_answer g (refused k)

abbrev pub with_read : Outcome → Gathered → Gathered
with_read o g = with_words o.answer o.words g

-- into words that were 0
abbrev pub read_of : List ℕ → ℕ → ℕ → Gathered → Gathered
read_of i k count g = with_read (read_from_of i k (replicate count 0)) g

-- ---- both as a line

-- two numbers, of which the second is a count that fits
abbrev pub fits_list_of : Arguments → Bool
fits_list_of r = eqb r.n 2 && leb r.b 4096

abbrev pub list_of : Listing → List ℕ → ℕ → ℕ → Gathered → Gathered
list_of listing.Walk i k count g = walk_of i k count g
list_of listing.Read i k count g = read_of i k count g

-- where all the words after the name are numbers
abbrev pub listed_of : Listing → Option Arguments → List ℕ → Gathered → Gathered
listed_of l None i g = with_says g bad
listed_of l (Some r) i g = cond (fits_list_of r) (list_of l i r.a r.b g) (with_says g bad)

abbrev pub line_of : Listing → Option Arguments → List ℕ → Gathered → Gathered
line_of l r i g = with_byte (listed_of l r i g) 10

-- ---- `windows S E W..`

-- a span, and no more words than a line may list
abbrev pub fits_windows_of : Arguments → Bool
fits_windows_of r = leb 2 r.n && leb r.n 4098

-- of the numbers xs: the span, and the words of the windows
abbrev pub count_says : List ℕ → List ℕ → Says
count_says i xs = answers (count_of i (drop 2 xs) (get_or xs 0 0) (get_or xs 1 0))

-- of the numbers r of a line, whose words after the name are fs
abbrev pub spans_of : Option Arguments → List (List ℕ) → List ℕ → Says
spans_of None fs i = bad
spans_of (Some r) fs i = cond (fits_windows_of r) (count_says i (values_of fs)) bad

-- of the words fs after the name
abbrev pub windows_of : List (List ℕ) → List ℕ → Says
windows_of fs i = spans_of (numbers_from 0 0 0 0 0 fs) fs i
