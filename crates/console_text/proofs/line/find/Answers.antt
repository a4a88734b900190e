-- `console_text::line::find` meets its contract. Assumes nothing.
use mathlib.Core.Path.{◌≡◌, ◌∙◌, ap}
use Prim.Native.Nat.{ℕ, ◌+◌, ◌-◌, ◌<◌, ◌≤◌}
use mathlib.Core.List.{List}
use lib.ListN.{drop, take, length, get_or, length-drop}
use lib.Seq.{take_all}
use native.Mathlib.Omega.{arith}
use borrow.Author.Rules.{rules}
use Rattle.std.specs.Prelude.{MatchOption, ◌≢◌}
use Rattle.console_text.specs.Line.{up_to}
use Rattle.console_text.proofs.Reading.{first_found}
use Rattle.console_text.proofs.line.find.Goals as goal

pub returns-clause-value : goal.returns-clause-value
returns-clause-value c =
    let a = c.args in
    let t : List ℕ = take (length a.text.now - a.from) (drop a.from a.text.now) in
    let h : MatchOption c.position.result ((k : ℕ) → k < length t → get_or t k 0 ≢ a.b) (λ i. (i < length t) × (get_or t i 0 ≡ a.b) × ((k : ℕ) → k < i → get_or t k 0 ≢ a.b)) = search rules in
    let m : length (drop a.from a.text.now) ≤ length a.text.now - a.from = rw length-drop (omega arith) in
    ap (λ (k : ℕ). a.from + k) (c.unwrap_or.ensures ∙ first_found t a.b c.position.result h ∙ ap (up_to a.b) (take_all (length a.text.now - a.from) (drop a.from a.text.now) m))
