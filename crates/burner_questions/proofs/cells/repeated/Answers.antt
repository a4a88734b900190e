-- `burner_questions::cells::repeated` meets its contract. Assumes nothing.
use Rattle.std.proofs.Common.{ℕ, suc, ◌≡◌, ◌+◌, ◌-◌, replicate, ap, sym, ◌∙◌, arith}
use Rattle.console_text.specs.Gathered.{Gathered, with_text}
use Rattle.console_text.specs.Held.{held}
use Rattle.burner_questions.proofs.Columns.{again_more, again_done}
use Rattle.burner_questions.proofs.cells.repeated.Goals as goal

pub loop-init : goal.loop-init
loop-init c = let a = c.args in let e : a.n ≡ a.n - 0 = omega arith in ap (λ (k : ℕ). with_text (held a.out.now) (replicate k a.b)) e

pub loop-preserved : goal.loop-preserved
loop-preserved c =
    let l = c.loop in
    let a = c.args in
    let e : a.n - l.counter ≡ suc (a.n - (l.counter + 1)) = omega arith in
    l.invariant ∙ again_more (held l.out) a.b (a.n - l.counter) (a.n - (l.counter + 1)) e ∙ ap (λ (g : Gathered). with_text g (replicate (a.n - (l.counter + 1)) a.b)) (sym c.byte.ensures)

pub returns : goal.returns
returns c =
    let l = c.loop in
    let a = c.args in
    sym (l.invariant ∙ again_done (held l.out) a.b (a.n - l.counter) (omega arith))
