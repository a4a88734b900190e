-- `decimal::fill` meets its contract. Assumes nothing.
use mathlib.Core.Path.{sym, ◌∙◌}
use lib.ListN.{length-set}
use Rattle.decimal.proofs.Writing.{put_none, put_more, put-over}
use Rattle.decimal.proofs.fill.Goals as goal

pub loop-i-preserved : goal.loop-i-preserved
loop-i-preserved c =
    let l = c.loop-i in
    (simp length-set l.invariant.0, sym (put_more l.i l.rest l.out c.args.at c.loop-i-test.true) ∙ l.invariant.1)

pub returns : goal.returns
returns c =
    let l = c.loop-i in
    sym (put_none l.i l.rest l.out _ c.loop-i-test.false) ∙ l.invariant.1 ∙ put-over _ _ _ _ c.requires
