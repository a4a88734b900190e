-- What a line of output says. Assumes nothing.
use Rattle.std.specs.Prelude.{Option, Some, None}
use Rattle.errors.specs.Answer.{Answer, value, none, done, refused}
use Rattle.errors.specs.Refusal.{number_of}
use Rattle.console_text.specs.declared.output.Reply.{Reply}
use Rattle.console_text.specs.declared.output.Reply.TheVariants as reply

-- an answer of document 01, "bad command", or nothing, where the name is not the section's
pub data Says : Type 0 where
  answers : Answer → Says
  bad : Says
  unknown : Says

abbrev pub says_of : Reply → Says
says_of (reply.Value x) = answers (value x)
says_of reply.Nothing = answers none
says_of reply.Done = answers done
says_of (reply.Refused e) = answers (refused (number_of e))
says_of reply.Bad = bad

-- of a section that may not know the name
abbrev pub says_if : Option Reply → Says
says_if (Some r) = says_of r
says_if None = unknown
