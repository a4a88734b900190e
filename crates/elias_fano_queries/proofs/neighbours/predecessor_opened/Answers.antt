-- `elias_fano_queries::neighbours::predecessor_opened` meets its contract.
-- Assumes nothing.
use mathlib.Core.Bool.{not}
use mathlib.Core.Path.{ap, ◌≡◌}
use Prim.Native.Nat.{◌+◌, ◌<◌}
use native.Mathlib.Omega.{arith}
use Rattle.elias_fano_queries.proofs.Answering as answering
use Rattle.elias_fano_queries.proofs.neighbours.predecessor_opened.Goals as goal
use Rattle.elias_fano_queries.proofs.neighbours.predecessor_opened.Goals.{else-val-image, then-val-image}

pub returns-then-after-image : goal.returns-then-after-image
returns-then-after-image c = answering.predecessor_last c.args.image.now.words.now c.args.image.now.ok c.args.image.now.parts c.args.image.now.right c.args.val (elim c.if-val-image.branch [ then-val-image w ↦ omega arith | else-val-image w ↦ omega arith ]) _ c.last_value.ensures

pub returns-then-not-image : goal.returns-then-not-image
returns-then-not-image c =
    let next : (c.if-val-image.after ≡ c.args.val + 1) × (c.if-val-image.after < c.args.image.now.parts.universe) = elim c.if-val-image.branch [ then-val-image w ↦ (omega arith, omega arith) | else-val-image w ↦ absurd (omega arith) ] in
    answering.predecessor_8 c.args.image.now.words.now c.args.image.now.ok c.args.image.now.parts c.args.image.now.right c.args.val (let n = next in omega (arith, n.0, n.1)) (ap not c.if-not-image.true)

pub rank_within-k-requires : goal.rank_within-k-requires
rank_within-k-requires c =
    let next : (c.if-val-image.after ≡ c.args.val + 1) × (c.if-val-image.after < c.args.image.now.parts.universe) = elim c.if-val-image.branch [ then-val-image w ↦ (omega arith, omega arith) | else-val-image w ↦ absurd (omega arith) ] in
    (c.if-not-image.false, (next).1)

pub last_below-requires : goal.last_below-requires
last_below-requires c =
    let next : (c.if-val-image.after ≡ c.args.val + 1) × (c.if-val-image.after < c.args.image.now.parts.universe) = elim c.if-val-image.branch [ then-val-image w ↦ (omega arith, omega arith) | else-val-image w ↦ absurd (omega arith) ] in
    let n = next in (omega (arith, n.0), n.1, c.rank_within-k.ensures)

pub returns : goal.returns
returns c =
    let next : (c.if-val-image.after ≡ c.args.val + 1) × (c.if-val-image.after < c.args.image.now.parts.universe) = elim c.if-val-image.branch [ then-val-image w ↦ (omega arith, omega arith) | else-val-image w ↦ absurd (omega arith) ] in
    answering.predecessor_is c.args.image.now.words.now c.args.image.now.ok c.args.image.now.parts c.args.image.now.right c.args.val (ap not c.if-not-image.false) _ (next).0 _ c.last_below.ensures
