-- Laws of `windows S E W..`. Assumes nothing.
use mathlib.Core.Path.{◌≡◌}
use mathlib.Core.Bool.{true}
use Prim.Native.Nat.{◌≤◌}
use lib.Dec.{leb}
use borrow.Author.Tests.{leb-true}
use Rattle.broadword.proofs.Truth.{and_true}
use Rattle.console_text.specs.declared.line.Arguments.{Arguments}
use Rattle.console_questions.specs.Questions.{fits_windows_of}

-- a span is there, and no more words than fit
pub spans_fit : (r : Arguments) → fits_windows_of r ≡ true → (2 ≤ r.n) × (r.n ≤ 4098)
spans_fit r h = let f = and_true (leb 2 r.n) (leb r.n 4098) h in (leb-true 2 r.n f.0, leb-true r.n 4098 f.1)
