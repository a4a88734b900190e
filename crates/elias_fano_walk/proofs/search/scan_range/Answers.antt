-- `elias_fano_walk::search::scan_range` meets its contract. The invariant: to go on from `i` gives what going on from the start gives. The measure:
-- what is left of the range. Assumes nothing.
use native.Mathlib.Omega.{arith}
use Rattle.elias_fano_walk.proofs.Searched as searched
use Rattle.elias_fano_walk.proofs.search.scan_range.Goals as goal

pub begin_at-w-requires : goal.begin_at-w-requires
begin_at-w-requires c = c.requires.0

pub loop-i-init : goal.loop-i-init
loop-i-init c = searched.scan_begins c.args.image.now.words.now c.args.image.now.ok c.args.image.now.parts c.args.image.now.right c.args.val c.args.section.number c.args.section.end c.requires.1 _ c.begin_at-w.ensures.0 c.begin_at-w.ensures.1

pub take-t-requires : goal.take-t-requires
take-t-requires c =
    let l = c.loop-i.invariant in
    (l.walking, omega (arith, l.number, c.requires.1.upto, c.loop-i-test.true))

pub returns-then-x-val : goal.returns-then-x-val
returns-then-x-val c =
    let l = c.loop-i in
    searched.scan_finds c.args.image.now.words.now c.args.image.now.ok c.args.image.now.parts c.args.image.now.right c.args.val c.args.section.number c.args.section.end c.requires.1 l.w l.i l.invariant c.loop-i-test.true _ c.take-t.ensures.2 c.if-x-val.true

pub returns-then-val-x : goal.returns-then-val-x
returns-then-val-x c =
    let l = c.loop-i in
    searched.scan_stops c.args.image.now.words.now c.args.image.now.ok c.args.image.now.parts c.args.image.now.right c.args.val c.args.section.number c.args.section.end c.requires.1 l.w l.i l.invariant c.loop-i-test.true _ c.take-t.ensures.2 c.if-val-x.true

pub loop-i-preserved : goal.loop-i-preserved
loop-i-preserved c =
    let l = c.loop-i in
    let t = c.take-t.ensures in
    searched.scan_goes_on c.args.image.now.words.now c.args.image.now.ok c.args.image.now.parts c.args.image.now.right c.args.val c.args.section.number c.args.section.end c.requires.1 l.w l.i l.invariant c.loop-i-test.true _ t.2 c.if-x-val.false _ t.0 t.1

pub returns : goal.returns
returns c = let l = c.loop-i in searched.scan_ends c.args.image.now.words.now c.args.image.now.ok c.args.image.now.parts c.args.image.now.right c.args.val c.args.section.number c.args.section.end c.requires.1 l.w l.i l.invariant c.loop-i-test.false
