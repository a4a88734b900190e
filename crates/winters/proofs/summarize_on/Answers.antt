-- `winters::summarize_on` meets its contract. Assumes nothing.
use mathlib.Core.Path.{sym, ap, ◌∙◌}
use native.Mathlib.Omega.{arith}
use Rattle.winters.specs.Winters.{summary_of}
use Rattle.winters.proofs.Summing as summing
use Rattle.winters.proofs.summarize_on.Goals as goal

pub returns-then-image-from : goal.returns-then-image-from
returns-then-image-from c = c.nothing.ensures ∙ sym (ap summary_of (summing.none_after c.args.image.now.words.now c.args.image.now.ok c.args.image.now.parts c.args.image.now.right c.args.e c.args.from.number c.if-image-from.true))

pub returns-then-e-first : goal.returns-then-e-first
returns-then-e-first c =
    c.nothing-then-e-first.ensures ∙ sym (ap summary_of (summing.none_within c.args.image.now.words.now c.args.image.now.ok c.args.image.now.parts c.args.image.now.right c.args.e c.args.from.number _ c.take-t.ensures.2 (omega (arith, c.if-e-first.true))))

pub summarize_after-requires : goal.summarize_after-requires
summarize_after-requires c =
    let r = c.take-t in
    let t = r.ensures in
    (t.0, summing.none_below c.args.image.now.words.now c.args.image.now.ok c.args.image.now.parts c.args.image.now.right c.args.from.number _ t.2 r.result.walk.number (omega (arith, t.1)))

pub returns : goal.returns
returns c =
    let t = c.take-t.ensures in
    c.summarize_after.ensures ∙ sym (ap summary_of (summing.one_more c.args.image.now.words.now c.args.image.now.ok c.args.image.now.parts c.args.image.now.right c.args.e c.args.from.number _ c.if-image-from.false t.2 (omega (arith, c.if-e-first.false)) _ t.1))
