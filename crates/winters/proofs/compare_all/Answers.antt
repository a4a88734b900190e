-- `winters::compare_all` meets its contract. Assumes nothing.
use Rattle.winters.proofs.Writing as writing
use Rattle.winters.proofs.compare_all.Goals as goal

pub loop-i-preserved : goal.loop-i-preserved
loop-i-preserved c =
    let r = c.summarize-s in
    writing.one_compared _ _ _ _ c.requires.0 c.requires.1 _ _ c.loop-i.invariant c.loop-i-test.true r.result r.ensures _ c.put.ensures

pub returns : goal.returns
returns c = writing.all_compared _ _ _ _ c.requires.0 c.requires.1 _ _ c.loop-i.invariant c.loop-i-test.false
