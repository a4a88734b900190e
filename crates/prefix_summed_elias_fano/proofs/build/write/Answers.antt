-- `prefix_summed_elias_fano::build::write` meets its contract.
-- Assumes nothing.
use mathlib.Core.Path.{◌≡◌, ap, ap₂, ◌∙◌}
use Prim.Native.Nat.{ℕ, suc, ◌+◌}
use native.Mathlib.Numerals.{add-one}
use native.Mathlib.Omega.{arith}
use lib.ListN.{length}
use Rattle.elias_fano.specs.Made.{builder}
use Rattle.prefix_summed_elias_fano.proofs.Filing as filing
use Rattle.prefix_summed_elias_fano.proofs.build.write.Goals as goal

-- the builder, as the program makes it
numbers_are : (n x y : ℕ) → x ≡ y → builder (x + 1) n n x ≡ builder (suc y) n n y
numbers_are n x y e = ap₂ (λ (u z : ℕ). builder u n n z) (add-one x ∙ ap suc e) e

pub overflow_add-b : goal.overflow_add-b
overflow_add-b c = omega (arith, c.requires.summable.small, c.requires.sum_is)

pub overflow_add-sum : goal.overflow_add-sum
overflow_add-sum c = omega (arith, c.requires.summable.small, c.requires.sum_is)

pub file_sums-requires : goal.file_sums-requires
file_sums-requires c = (record { summable = c.requires.summable; sizes = c.requires.sizes; room = filing.start-room c.args.items.now c.requires.summable _ c.requires.room }, add-one _ ∙ ap suc c.requires.sum_is)

pub write_image-requires : goal.write_image-requires
write_image-requires c =
    let a = c.args in
    filing.ready a.items.now c.requires.summable a.buffer.now (λ k. (c.slice_known-1.given k).fits) (filing.start-room a.items.now c.requires.summable _ c.requires.room) _ (numbers_are (length a.items.now) _ _ c.requires.sum_is) _ c.file_sums.ensures a.j.sizes c.requires.sizes c.requires.room

pub returns : goal.returns
returns c =
    let a = c.args in
    let e = c.write_image.ensures in (
      filing.wrote a.items.now c.requires.summable a.buffer.now (λ k. (c.slice_known-1.given k).fits) (filing.start-room a.items.now c.requires.summable _ c.requires.room) _ (numbers_are (length a.items.now) _ _ c.requires.sum_is) _ c.file_sums.ensures _ e.0,
      filing.wrote_length a.items.now c.requires.summable a.buffer.now (λ k. (c.slice_known-1.given k).fits) (filing.start-room a.items.now c.requires.summable _ c.requires.room) _ (numbers_are (length a.items.now) _ _ c.requires.sum_is) _ c.file_sums.ensures _ e.1,
    )
