-- `bit_words::first_from` meets its contract.
-- Assumes nothing.
use mathlib.Core.Bool.{true}
use mathlib.Core.Path.{refl, sym, ap, ◌∙◌, subst⁻¹}
use Prim.Native.Nat.{ℕ, ◌*◌, ◌≤◌, ◌<◌}
use native.Mathlib.Nat.{add-zero}
use native.Mathlib.Omega.{arith}
use Rattle.broadword.specs.Bits.{bit, count, ones}
use Rattle.broadword.specs.Places.{select}
use Rattle.broadword.proofs.Count.{bit_le}
use Rattle.bit_words.specs.Vector.{bit_over}
use Rattle.bit_words.proofs.Runs.{select_few}
use Rattle.bit_words.proofs.Search.{ahead_at, ahead_past}
use Rattle.bit_words.proofs.first_from.Goals as goal

pub overflow_add-result : goal.overflow_add-result
overflow_add-result c = let l = (ahead_at true c.args.words.now c.args.used c.args.from 0 c.window.result c.window.ensures (subst⁻¹ (λ (n : ℕ). n < count (bit_over true c.args.words.now) (c.args.used * 64)) (add-zero (count (bit_over true c.args.words.now) c.args.from)) c.requires.1) c.in-Some.bit (let u = c.requires.0.start in omega arith) (sym c.lsb.ensures ∙ c.in-Some.is)).0 in let f = c.requires.0.few in omega arith

pub find_by_words-requires : goal.find_by_words-requires
find_by_words-requires c =
    let w = c.window in
    let some = subst⁻¹ (λ (n : ℕ). n < count (bit_over true c.args.words.now) (c.args.used * 64)) (add-zero (count (bit_over true c.args.words.now) c.args.from)) c.requires.1 in
    let none : ones w.result 64 ≤ 0 = select_few (bit w.result) (bit_le w.result) 64 64 0 (sym c.lsb.ensures ∙ c.in-None.is) in
    (c.requires.0, some, ahead_past true c.args.words.now c.args.used c.args.from 0 w.result w.ensures some (ones w.result 64) refl none (let u = c.requires.0.start in omega arith))

pub returns-in-Some : goal.returns-in-Some
returns-in-Some c = ap (select (bit_over true c.args.words.now) (c.args.used * 64)) (sym (add-zero (count (bit_over true c.args.words.now) c.args.from))) ∙ (ahead_at true c.args.words.now c.args.used c.args.from 0 c.window.result c.window.ensures (subst⁻¹ (λ (n : ℕ). n < count (bit_over true c.args.words.now) (c.args.used * 64)) (add-zero (count (bit_over true c.args.words.now) c.args.from)) c.requires.1) c.in-Some.bit (let u = c.requires.0.start in omega arith) (sym c.lsb.ensures ∙ c.in-Some.is)).1

pub returns-in-None : goal.returns-in-None
returns-in-None c = ap (select (bit_over true c.args.words.now) (c.args.used * 64)) (sym (add-zero (count (bit_over true c.args.words.now) c.args.from))) ∙ c.find_by_words.ensures
