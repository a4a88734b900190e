-- `console_text::output::Output::list` meets its contract. Assumes nothing.
use mathlib.Core.Path.{ap, sym, ◌∙◌}
use Prim.Native.Nat.{◌+◌}
use lib.ListN.{drop}
use Rattle.console_text.specs.Gathered.{Gathered, with_list}
use Rattle.console_text.specs.Held.{held}
use Rattle.console_text.proofs.Gathering.{list_more, list_done}
use Rattle.console_text.proofs.output.Output.list.Goals as goal

pub loop-x-preserved : goal.loop-x-preserved
loop-x-preserved c =
    let l = c.loop-x in
    let s = c.args.xs.now in
    l.invariant ∙ list_more (held l.self) s l.x-index c.loop-x-test.true ∙ ap (λ (g : Gathered). with_list g (drop (l.x-index + 1) s)) (sym c.next_number.ensures)

pub returns : goal.returns
returns c =
    let l = c.loop-x in
    sym (l.invariant ∙ list_done (held l.self) c.args.xs.now l.x-index c.loop-x-test.false)
