-- The console's section Record, but for the questions: what each command says, and what it leaves: what is held and every word of the buffer. w are the
-- buffer's words, s is what is held, r the command's numbers. Assumes nothing.
use Rattle.std.specs.Prelude.{Bool, cond, ◌&&◌, List, [], ◌∷◌, ◌++◌, ℕ, eqb, ltb, length, take, drop, set, replicate, Option, Some, None, codes, option_map}
use Rattle.errors.specs.Answer.{Answer, value, none, done, refused}
use Rattle.elias_fano.specs.declared.builder.Builder.{Builder}
use Rattle.elias_fano.specs.Made.{Made, builder, nobody}
use Rattle.elias_fano.specs.Steps.{new_of, push_of, build_of, resume_of}
use Rattle.console_text.specs.declared.line.Arguments.{Arguments}
use Rattle.console_text.specs.Line.{same_text}
use Rattle.console_text.specs.Says.{Says, answers, bad, unknown}
use Rattle.console_record.specs.declared.Record.{Record}
use Rattle.console_record.specs.declared.Command.{Command}
use Rattle.console_record.specs.declared.Command.TheVariants.{Forge, Image, Buffer, Within}
use Rattle.console_record.specs.declared.alter.Change.{Change}
use Rattle.console_record.specs.declared.alter.Change.TheVariants.{Poke, Start, Reading, Finish, Resume}

-- what a command says and leaves
pub record Turn : Type 0 where
  pub says : Says
  pub held : Record
  pub buffer : List ℕ

abbrev pub turn : Says → Record → List ℕ → Turn
turn a s w = record { says = a; held = s; buffer = w }

-- ---- what is held

abbrev pub lending : ℕ → Record
lending n = record { lent = n; image = 0; builder = nobody }

abbrev pub with_image : Record → ℕ → Record
with_image s n = record { lent = s.lent; image = n; builder = s.builder }

abbrev pub with_builder : Record → Builder → Record
with_builder s b = record { lent = s.lent; image = s.image; builder = b }

-- `forge U N M LAST`
abbrev pub forge_of : Arguments → Record → List ℕ → Turn
forge_of r s w = turn (answers done) (with_builder s (builder r.a r.b r.c r.d)) w

-- `image L`
abbrev pub image_of : ℕ → Record → List ℕ → Turn
image_of n s w = cond (ltb s.lent n) (turn bad s w) (turn (answers done) (with_image s n) w)

-- `buffer W V`
abbrev pub lend_of : ℕ → ℕ → Record → List ℕ → Turn
lend_of n x s w = cond (ltb (length w) n) (turn bad s w) (turn (answers done) (lending n) (replicate n x ++ drop n w))

-- ---- what writes into the lent words w

-- `poke I V`
abbrev pub poke_of : ℕ → ℕ → Record → List ℕ → Turn
poke_of i x s w = cond (ltb i (length w)) (turn (answers done) s (set w i x)) (turn bad s w)

-- a builder that is handed back is held from then on
abbrev pub builder_after : Answer → Builder → Record → Record
builder_after done b s = with_builder s b
builder_after (value x) b s = s
builder_after none b s = s
builder_after (refused e) b s = s

abbrev pub of_push : Record → Made → Turn
of_push s m = turn (answers m.answer) (builder_after m.answer m.builder s) m.words

-- the words of a finish are the image from then on
abbrev pub image_after : Answer → Record → Record
image_after (value n) s = with_image s n
image_after none s = s
image_after done s = s
image_after (refused e) s = s

abbrev pub of_build : Record → Made → Turn
of_build s m = turn (answers m.answer) (image_after m.answer s) m.words

-- `poke`, `start U N`, `reading T`, `finish C`, `resume`
abbrev pub change_of : Change → Arguments → Record → List ℕ → Turn
change_of Poke r s w = poke_of r.a r.b s w
change_of Start r s w = of_push s (new_of r.a r.b w)
change_of Reading r s w = of_push s (push_of s.builder r.a w)
change_of Finish r s w = of_build s (build_of s.builder (eqb r.a 1) w)
change_of Resume r s w = of_push s (resume_of s.builder w)

-- what f does with the lent words, over the whole buffer: the words that are not lent stay
abbrev pub above : List ℕ → Turn → Turn
above later l = turn l.says l.held (l.buffer ++ later)

abbrev pub within_of : (Record → List ℕ → Turn) → Record → List ℕ → Turn
within_of f s w = cond (ltb (length w) s.lent) (turn bad s w) (above (drop s.lent w) (f s (take s.lent w)))

-- ---- all commands

abbrev pub change_named : List ℕ → Option Change
change_named name =
    cond (same_text name (codes "poke")) (Some Poke)
    (cond (same_text name (codes "start")) (Some Start)
    (cond (same_text name (codes "reading")) (Some Reading)
    (cond (same_text name (codes "finish")) (Some Finish)
    (cond (same_text name (codes "resume")) (Some Resume) None))))

abbrev pub command_named : List ℕ → Option Command
command_named name =
    cond (same_text name (codes "forge")) (Some Forge)
    (cond (same_text name (codes "image")) (Some Image)
    (cond (same_text name (codes "buffer")) (Some Buffer) (option_map (λ c. Within c) (change_named name))))

-- how many numbers each takes, and which of them is a choice
abbrev pub fits_of : Command → Arguments → Bool
fits_of Forge r = eqb r.n 4
fits_of Image r = eqb r.n 1
fits_of Buffer r = eqb r.n 2
fits_of (Within Poke) r = eqb r.n 2
fits_of (Within Start) r = eqb r.n 2
fits_of (Within Reading) r = eqb r.n 1
fits_of (Within Finish) r = eqb r.n 1 && ltb r.a 2
fits_of (Within Resume) r = eqb r.n 0

abbrev pub done_of : Command → Arguments → Record → List ℕ → Turn
done_of Forge r s w = forge_of r s w
done_of Image r s w = image_of r.a s w
done_of Buffer r s w = lend_of r.a r.b s w
done_of (Within c) r s w = within_of (change_of c r) s w

abbrev pub command_of : Option Command → Arguments → Record → List ℕ → Turn
command_of None r s w = turn unknown s w
command_of (Some c) r s w = cond (fits_of c r) (done_of c r s w) (turn bad s w)

abbrev pub answer_of : List ℕ → Arguments → Record → List ℕ → Turn
answer_of name r s w = command_of (command_named name) r s w

-- ---- lists: `builder`

abbrev pub numbers_in : Record → List ℕ
numbers_in s = s.builder.universe ∷ s.builder.num_vals ∷ s.builder.num_pushed ∷ s.builder.last ∷ []
