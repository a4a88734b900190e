-- `console_sums::build::stored` meets its contract. Assumes nothing.
use mathlib.Core.List.{List}
use mathlib.Core.Path.{ap, ◌∙◌}
use Prim.Native.Nat.{ℕ}
use lib.ListN.{take, drop}
use Rattle.prefix_summed_elias_fano.specs.Sums.{from_slice_of}
use Rattle.console_text.specs.Line.{fields}
use Rattle.console_text.proofs.Reading.{stored_values}
use Rattle.console_sums.specs.Commands.{whole_within}
use Rattle.console_sums.proofs.build.stored.Goals as goal

pub returns : goal.returns
returns c =
    let a = c.args in
    c.within.ensures
    ∙ ap (λ (l : List ℕ). whole_within (from_slice_of l) a.s.now a.buffer.now)
    (c.first-items.ensures ∙ ap (take a.n) c.store.ensures ∙ stored_values a.items.now (fields (drop a.end a.text.now)) a.n c.requires.0 c.requires.1)
