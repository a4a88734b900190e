-- `ffi::many::answer_each` meets its contract. The invariant: `i` arguments are answered.
-- Assumes nothing.
use Prim.Native.Nat.{ℕ}
use Rattle.errors.specs.Answer.{Answer}
use Rattle.ffi.specs.Many.{Answering}
use Rattle.ffi.proofs.Answering as answering
use Rattle.ffi.proofs.many.answer_each.Given as goal

abbrev pub invariant-loop-i : goal.invariant-loop-i
invariant-loop-i g l = (f : ℕ → Answer) → Answering (goal.F-post g) l.answer f → answering.Answered f l.args l.initial.out l.count l.out l.i
