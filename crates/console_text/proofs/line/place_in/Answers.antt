-- `console_text::line::place_in` meets its contract. The invariant: k words are passed, and the name is none of them. Assumes nothing.
use mathlib.Core.Path.{sym, ◌∙◌}
use native.Mathlib.Omega.{arith}
use Rattle.console_text.proofs.Reading.{place_hit, place_miss, place_end}
use Rattle.console_text.proofs.line.place_in.Goals as goal

pub returns-then-same : goal.returns-then-same
returns-then-same c =
    let l = c.loop-at in
    let a = c.args in
    let w = c.word_end-end in
    omega (arith, l.invariant.1, place_hit a.list.now l.at w.result c.loop-at-test.true w.ensures.value a.name.now (sym c.same.ensures ∙ c.if-same.true))

pub loop-at-preserved : goal.loop-at-preserved
loop-at-preserved c =
    let l = c.loop-at in
    let a = c.args in
    let w = c.word_end-end in
    (omega arith, omega (arith, l.invariant.1, place_miss a.list.now l.at w.result c.loop-at-test.true w.ensures.value a.name.now (sym c.same.ensures ∙ c.if-same.false)))

pub returns : goal.returns
returns c =
    let l = c.loop-at in
    let a = c.args in
    omega (arith, l.invariant.1, place_end a.list.now a.name.now l.at c.loop-at-test.false)
