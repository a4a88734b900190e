-- `elias_fano_walk::read::take_all` meets its contract. The invariant: `i` values are written. The measure: how many are left.
-- Assumes nothing.
use native.Mathlib.Omega.{arith}
use Rattle.elias_fano_walk.proofs.Reading as reading
use Rattle.elias_fano_walk.proofs.read.take_all.Goals as goal

pub loop-i-init : goal.loop-i-init
loop-i-init c = reading.none_written c.args.image.now.words.now c.args.image.now.parts _ c.args.count c.args.from c.requires.0

pub take-t-requires : goal.take-t-requires
take-t-requires c =
    let l = c.loop-i in
    (l.invariant.walking, reading.one_left c.args.image.now.words.now c.args.image.now.parts _ c.args.image.now.ok c.args.image.now.right _ c.args.count c.requires.1 c.requires.2 l.out l.w l.i l.invariant c.loop-i-test.true)

pub bounds-out-i : goal.bounds-out-i
bounds-out-i c = let e = c.loop-i.invariant.long in let r = c.requires.2 in omega (arith, c.loop-i-test.true)

pub loop-i-preserved : goal.loop-i-preserved
loop-i-preserved c =
    let l = c.loop-i in
    let t = c.take-t.ensures in
    reading.one_written c.args.image.now.words.now c.args.image.now.parts _ c.args.image.now.ok c.args.image.now.right _ c.args.count c.requires.1 c.requires.2 l.out l.w l.i l.invariant c.loop-i-test.true _ _ t.0 t.1 t.2

pub shape_of-out : goal.shape_of-out
shape_of-out c = c.loop-i.invariant.long

pub returns : goal.returns
returns c = let l = c.loop-i in reading.all_written c.args.image.now.words.now c.args.image.now.parts _ _ c.args.count l.out l.w l.i l.invariant c.loop-i-test.false
