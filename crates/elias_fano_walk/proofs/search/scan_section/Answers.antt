-- `elias_fano_walk::search::scan_section` meets its contract.
-- Assumes nothing.
use mathlib.Core.Path.{subst}
use Prim.Native.Nat.{ℕ, ◌<◌}
use native.Mathlib.Omega.{arith}
use Rattle.elias_fano_walk.proofs.Halved as halved
use Rattle.elias_fano_walk.proofs.search.scan_section.Goals as goal

pub overflow_sub-end : goal.overflow_sub-end
overflow_sub-end c = omega (arith, c.section_by_high-section.ensures.some)

pub returns-then-end-first-le-SUBBLOCK_LEN : goal.returns-then-end-first-le-SUBBLOCK_LEN
returns-then-end-first-le-SUBBLOCK_LEN c = c.section_by_high-section.ensures

pub returns-then-value_of-val : goal.returns-then-value_of-val
returns-then-value_of-val c =
    let m = c.if-end-first-le-SUBBLOCK_LEN.false in
    let below = subst (λ (x : ℕ). x < c.args.val) c.value_of.ensures c.if-value_of-val.true in
    halved.section_right c.args.image.now.words.now c.args.image.now.ok c.args.image.now.parts c.args.image.now.right c.args.val c.args.a c.args.b c.requires _ _ _ _ c.section_by_high-section.ensures (omega arith) (omega arith) below c.halve_range-number.ensures c.one_at-place.ensures

pub returns : goal.returns
returns c = c.section_by_high-section.ensures
