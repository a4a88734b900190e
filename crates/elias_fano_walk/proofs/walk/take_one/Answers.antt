-- `elias_fano_walk::walk::take_one` meets its contract.
-- Assumes nothing.
use mathlib.Core.Path.{sym, ◌∙◌}
use Rattle.elias_fano_walk.proofs.Walked as walked
use Rattle.elias_fano_walk.proofs.walk.take_one.Goals as goal

pub unwrap-requires : goal.unwrap-requires
unwrap-requires c =
    let a = c.ahead_of-base in
    walked.some_lowest c.args.image.now.words.now c.args.image.now.ok c.args.image.now.parts c.args.image.now.right c.args.w.number c.requires.1 a.result.base a.result.rest a.ensures.0 a.ensures.1 _ c.lsb.ensures

pub overflow_add-result : goal.overflow_add-result
overflow_add-result c =
    let a = c.ahead_of-base in
    record { fits = walked.place_fits c.args.image.now.words.now c.args.image.now.ok c.args.image.now.parts c.args.image.now.right c.args.w.number c.requires.1 a.result.base a.result.rest a.ensures.0 a.ensures.1 _ (sym c.lsb.ensures ∙ c.unwrap.ensures) }

pub returns : goal.returns
returns c =
    let a = c.ahead_of-base in
    let t = walked.one_taken c.args.image.now.words.now c.args.image.now.ok c.args.image.now.parts c.args.image.now.right c.args.w.number c.requires.1 a.result.base a.result.rest a.ensures.0 a.ensures.1 _ (sym c.lsb.ensures ∙ c.unwrap.ensures) in
    record { at = t.0; after = t.1 }
