-- `console_text::line::numbers` meets its contract. Assumes nothing.
use mathlib.Core.Path.{sym, ◌∙◌}
use native.Mathlib.Omega.{arith}
use Rattle.console_text.proofs.Reading.{number_more, number_stop, numbers_end}
use Rattle.console_text.proofs.line.numbers.Goals as goal

pub returns-in_err-x : goal.returns-in_err-x
returns-in_err-x c =
    let l = c.loop-at in
    let w = c.word_end-at in
    c.from_residual.ensures
    ∙ sym (l.invariant.1 ∙ number_stop c.args.line.now l.at w.result c.loop-at-test.true w.ensures.value l.n l.a l.b l.c l.d c.parse.result c.parse.ensures (sym c.ok.ensures.value ∙ c.in_err-x.was))

pub loop-at-preserved : goal.loop-at-preserved
loop-at-preserved c =
    let l = c.loop-at in
    let w = c.word_end-at in (
      omega arith,
      l.invariant.1
          ∙ number_more c.args.line.now l.at w.result c.loop-at-test.true w.ensures.value l.n l.a l.b l.c l.d c.parse.result c.parse.ensures c.in_ok-x.x _ _ _ _ (sym c.ok.ensures.value ∙ c.in_ok-x.was) c.if_at-a.ensures c.if_at-b.ensures c.if_at-c.ensures c.if_at-d.ensures,
    )

pub returns : goal.returns
returns c =
    let l = c.loop-at in
    sym (l.invariant.1 ∙ numbers_end c.args.line.now l.at c.loop-at-test.false l.n l.a l.b l.c l.d)
