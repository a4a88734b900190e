-- `console_text::output::Output::text` meets its contract. Assumes nothing.
use mathlib.Core.Path.{ap, sym, ◌∙◌}
use Prim.Native.Nat.{◌+◌}
use lib.ListN.{drop}
use Rattle.console_text.specs.Gathered.{Gathered, with_text}
use Rattle.console_text.specs.Held.{held}
use Rattle.console_text.proofs.Gathering.{text_more, text_done}
use Rattle.console_text.proofs.output.Output.text.Goals as goal

pub loop-b-preserved : goal.loop-b-preserved
loop-b-preserved c =
    let l = c.loop-b in
    let s = c.args.s.now in
    l.invariant ∙ text_more (held l.self) s l.b-index c.loop-b-test.true ∙ ap (λ (g : Gathered). with_text g (drop (l.b-index + 1) s)) (sym c.byte.ensures)

pub returns : goal.returns
returns c =
    let l = c.loop-b in
    sym (l.invariant ∙ text_done (held l.self) c.args.s.now l.b-index c.loop-b-test.false)
