-- A list of calls as words, and what a run of it leaves, by the model. Two words are a call: 0 and a time for a push, any other and 1 or 0 for a build with
-- or without the rank index; a last word alone is none. Two words are an answer. Assumes nothing.
use Rattle.elias_fano_model.specs.declared.Ended.{Ended}
use Rattle.errors.specs.declared.Refusal.{Refusal}
use Rattle.std.specs.Prelude.{List, [], ◌∷◌, cond, ℕ, ◌/◌, eqb, leb, ltb, length, Ok, Err, Result}
use Rattle.std.proofs.lemmas.List.Edits.{sets}
use Rattle.errors.specs.Answer.{Answer, value, none, done, refused}
use Rattle.errors.specs.Refusal.{number_of}
use Rattle.elias_fano_words.specs.Sizes.{start_len}
use Rattle.elias_fano.specs.declared.builder.Builder.{Builder}
use Rattle.elias_fano.specs.Made.{Made, nobody}
use Rattle.elias_fano_model.specs.Model.{Call, push, build, book}
use Rattle.elias_fano_model.specs.Demand3.{end_from}
use Rattle.elias_fano_model.specs.declared.Reply.{Reply}
use Rattle.elias_fano_model.specs.declared.Reply.TheVariants as reply

unfoldable pub call_of : ℕ → ℕ → Call
call_of k a = cond (eqb k 0) (push a) (build (eqb a 1))

unfoldable pub decode : List ℕ → List Call
decode [] = []
decode (k ∷ []) = []
decode (k ∷ a ∷ r) = call_of k a ∷ decode r

-- an answer as words: done 0 0, a value 1 and it, a refusal 2 and its number
abbrev pub kind_of : Answer → ℕ
kind_of done = 0
kind_of (value k) = 1
kind_of (refused e) = 2
kind_of none = 3

abbrev pub value_of : Answer → ℕ
value_of done = 0
value_of (value k) = k
value_of (refused e) = e
value_of none = 0

unfoldable pub codes : List Made → List ℕ
codes [] = []
codes (s ∷ ss) = kind_of s.answer ∷ value_of s.answer ∷ codes ss

-- the cases of a reply
abbrev pub of_reply : Reply → Answer
of_reply reply.Done = done
of_reply (reply.Value k) = value k
of_reply (reply.Refused e) = refused (number_of e)

-- how a run ends: with a builder after so many answers, or refused
pub data End : Type 0 where
  ended : Builder → ℕ → End
  unbegun : ℕ → End

abbrev pub of_ran : Result Ended Refusal → End
of_ran (Ok e) = ended e.builder e.count
of_ran (Err e) = unbegun (number_of e)

-- what a run leaves: its end, the words of the record and those of the answers
pub record Left : Type 0 where
  pub end : End
  pub words : List ℕ
  pub filed : List ℕ

abbrev pub left : End → List ℕ → List ℕ → Left
left r w a = record { end = r; words = w; filed = a }

-- the last builder and words of a list of outcomes that is not empty, and every answer
abbrev pub left_by : List ℕ → List Made → Left
left_by answers [] = left (ended nobody 0) [] answers
left_by answers (s ∷ ss) = left (ended (end_from s ss).builder (length (s ∷ ss))) (end_from s ss).words (sets answers 0 (codes (s ∷ ss)))

-- 3 where the answers do not fit, then what the start draws; else all by the model
unfoldable pub run_of : ℕ → ℕ → List ℕ → List ℕ → List ℕ → Left
run_of u n calls lent answers =
    cond (leb (length answers / 2) (length calls / 2)) (left (unbegun 3) lent answers)
    (cond (eqb n 0) (left (unbegun 1) lent answers)
    (cond (ltb 16777216 n) (left (unbegun 2) lent answers)
    (cond (ltb (length lent) (start_len u n)) (left (unbegun 3) lent answers)
    (left_by answers (book u n lent (decode calls))))))
