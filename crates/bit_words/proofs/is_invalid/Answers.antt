use mathlib.Core.Path.{sym}
use native.Mathlib.Omega.{arith}
use Rattle.bit_words.proofs.Valid as valid
use Rattle.bit_words.proofs.is_invalid.Goals as goal

pub returns-then-words-used : goal.returns-then-words-used
returns-then-words-used c = sym (valid.short _ _ (omega arith))

pub returns-then-left-eq0 : goal.returns-then-left-eq0
returns-then-left-eq0 c = sym (valid.whole _ _ (omega arith) (omega arith))

pub bounds-words-last : goal.bounds-words-last
bounds-words-last c = omega arith

pub returns : goal.returns
returns c = sym (valid.part _ _ (omega arith) (omega arith))
