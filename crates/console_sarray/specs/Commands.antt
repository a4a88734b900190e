-- The console's sparse vector: what each command says, and what it leaves. i is the image, v the length and choice that are held, s what is held of the record,
-- r the command's numbers, w are the buffer's words. Assumes nothing.
use Rattle.std.specs.Prelude.{Bool, cond, ◌&&◌, List, ℕ, eqb, ltb, Option, Some, None, codes}
use Rattle.errors.specs.Answer.{value, none, done, refused}
use Rattle.sarray.specs.Ask.{SparseQuestion, Access, Rank1, Select1, Predecessor1, Successor1, sparse_query}
use Rattle.sarray.specs.Build.{sparse_from_bits}
use Rattle.console_text.specs.declared.line.Arguments.{Arguments}
use Rattle.console_text.specs.Line.{same_text}
use Rattle.console_text.specs.Says.{Says, answers, bad, unknown}
use Rattle.console_record.specs.declared.Record.{Record}
use Rattle.console_record.specs.Section.{Turn}
use Rattle.console_sums.specs.Commands.{whole_within, fits_choice_of}
use Rattle.console_sarray.specs.declared.Sparse.{Sparse}
use Rattle.console_sarray.specs.declared.Query.{Query}
use Rattle.console_sarray.specs.declared.Query.TheVariants as query
use Rattle.console_sarray.specs.declared.Command.{Command}
use Rattle.console_sarray.specs.declared.Command.TheVariants.{Set, FromBits}

-- ---- the questions

abbrev pub query_named : List ℕ → Option Query
query_named name =
    cond (same_text name (codes "sarray_access")) (Some query.Access)
    (cond (same_text name (codes "sarray_rank1")) (Some query.Rank1)
    (cond (same_text name (codes "sarray_select1")) (Some query.Select1)
    (cond (same_text name (codes "sarray_predecessor1")) (Some query.Predecessor1)
    (cond (same_text name (codes "sarray_successor1")) (Some query.Successor1) None))))

abbrev pub question_of : Query → ℕ → SparseQuestion
question_of query.Access p = Access p
question_of query.Rank1 p = Rank1 p
question_of query.Select1 p = Select1 p
question_of query.Predecessor1 p = Predecessor1 p
question_of query.Successor1 p = Successor1 p

-- each takes one number
abbrev pub asked_of : Option Query → Arguments → List ℕ → Sparse → Says
asked_of None r i v = unknown
asked_of (Some q) r i v = cond (eqb r.n 1) (answers (sparse_query v.len v.rank i (question_of q r.a))) bad

abbrev pub answer_of : List ℕ → Arguments → List ℕ → Sparse → Says
answer_of name r i v = asked_of (query_named name) r i v

-- ---- what alters what is held

-- what a command says and leaves
pub record SparseTurn : Type 0 where
  pub says : Says
  pub held : Record
  pub vector : Sparse
  pub buffer : List ℕ

abbrev pub sparse_turn : Says → Record → Sparse → List ℕ → SparseTurn
sparse_turn a s v w = record { says = a; held = s; vector = v; buffer = w }

abbrev pub sparse : ℕ → Bool → Sparse
sparse len c = record { len = len; rank = c }

abbrev pub fits_set_of : Arguments → Bool
fits_set_of r = eqb r.n 2 && ltb r.b 2

-- `sarray LEN C`: nothing is checked
abbrev pub set_of : Arguments → Record → Sparse → List ℕ → SparseTurn
set_of r s v w = cond (fits_set_of r) (sparse_turn (answers done) s (sparse r.a (eqb r.b 1)) w) (sparse_turn bad s v w)

-- an accepted call sets the length and the choice
abbrev pub vector_after : Says → Sparse → Sparse → Sparse
vector_after (answers (value k)) next v = next
vector_after (answers none) next v = v
vector_after (answers done) next v = v
vector_after (answers (refused k)) next v = v
vector_after bad next v = v
vector_after unknown next v = v

abbrev pub with_vector : Turn → Sparse → Sparse → SparseTurn
with_vector t next v = sparse_turn t.says t.held (vector_after t.says next v) t.buffer

-- `sarray_from_bits C`, of the bits ws with the length len
abbrev pub built_of : Arguments → List ℕ → ℕ → Record → Sparse → List ℕ → SparseTurn
built_of r ws len s v w = cond (fits_choice_of r) (with_vector (whole_within (sparse_from_bits ws len (eqb r.a 1)) s w) (sparse len (eqb r.a 1)) v) (sparse_turn bad s v w)

abbrev pub command_named : List ℕ → Option Command
command_named name =
    cond (same_text name (codes "sarray")) (Some Set)
    (cond (same_text name (codes "sarray_from_bits")) (Some FromBits) None)

abbrev pub command_of : Option Command → Arguments → List ℕ → ℕ → Record → Sparse → List ℕ → SparseTurn
command_of None r ws len s v w = sparse_turn unknown s v w
command_of (Some Set) r ws len s v w = set_of r s v w
command_of (Some FromBits) r ws len s v w = built_of r ws len s v w

abbrev pub alter_of : List ℕ → Arguments → List ℕ → ℕ → Record → Sparse → List ℕ → SparseTurn
alter_of name r ws len s v w = command_of (command_named name) r ws len s v w
