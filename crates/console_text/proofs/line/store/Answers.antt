-- `console_text::line::store` meets its contract. The invariant: what is left of the line goes after what is stored. Assumes nothing.
use mathlib.Core.Path.{ap, sym, ◌∙◌}
use mathlib.Core.List.{List}
use native.Mathlib.Omega.{arith}
use Prim.Native.Nat.{ℕ, ◌+◌}
use lib.ListN.{length, drop, length-set}
use lib.Seq.{sets}
use Rattle.console_text.specs.Line.{fields, values_of}
use Rattle.console_text.proofs.Reading.{store_next, store_end}
use Rattle.console_text.proofs.line.store.Goals as goal

pub loop-at-preserved : goal.loop-at-preserved
loop-at-preserved c =
    let a = c.args in
    let l = c.loop-at in
    let w = c.word_end-at in
    let x = c.value in
    let p = c.put in (
      omega arith,
      ap length p.ensures ∙ length-set l.words l.i x.result ∙ l.invariant.1,
      l.invariant.2
          ∙ store_next a.line.now l.at w.result c.loop-at-test.true w.ensures.value l.i x.result l.words x.ensures
          ∙ ap (λ (ws : List ℕ). sets ws (l.i + 1) (values_of (fields (drop w.result a.line.now)))) (sym p.ensures),
    )

pub returns : goal.returns
returns c = let l = c.loop-at in sym (l.invariant.2 ∙ store_end c.args.line.now l.at c.loop-at-test.false l.i l.words)
