-- `prefix_summed_elias_fano::build::file_all` meets its contract: the invariant says that the sums before i are filed.
-- Assumes nothing.
use mathlib.Core.Path.{◌≡◌, refl, sym, ap, ◌∙◌}
use mathlib.Core.List.{List}
use Prim.Native.Nat.{ℕ, suc, ◌+◌, ◌<◌}
use native.Mathlib.Omega.{arith}
use lib.ListN.{length, get_or, take}
use Rattle.prefix_summed_elias_fano.specs.Sums.{sum as sum_of, sums}
use Rattle.elias_fano.proofs.Listing as listing
use Rattle.prefix_summed_elias_fano.proofs.Filing as filing
use Rattle.prefix_summed_elias_fano.proofs.Filing.{filed_first}
use Rattle.prefix_summed_elias_fano.proofs.Sums as sums-law
use Rattle.prefix_summed_elias_fano.proofs.build.file_all.Goals as goal

-- the sum with one item more
next_sum : (A : List ℕ) (i x : ℕ) → i < length A → x ≡ sum_of (take i A) → x + get_or A i 0 ≡ sum_of (take (suc i) A)
next_sum A i x h e = ap (λ (y : ℕ). y + get_or A i 0) e ∙ sym (sums-law.sum_next A i h)

pub loop-i-init : goal.loop-i-init
loop-i-init c = (omega arith, sym sums-law.sum_none, refl, c.requires.2 ∙ listing.begins (suc (sum_of c.args.items.now)) (length c.args.items.now) (sums c.args.items.now) (filing.fits c.args.items.now c.requires.0.summable) (sums-law.length-sums 0 c.args.items.now) c.args.buffer.now (λ k. (c.slice_known-1.given k).fits) c.requires.0.room)

pub overflow_add-sum : goal.overflow_add-sum
overflow_add-sum c = let l = c.loop-i in let a = next_sum c.args.items.now l.i l.sum c.loop-i-test.true l.invariant.1 in let b = sums-law.sum-upto c.args.items.now (suc l.i) in omega (arith, c.requires.0.summable.small)

pub file-requires : goal.file-requires
file-requires c = let l = c.loop-i in filing.fileable c.args.items.now c.requires.0.summable c.args.buffer.now (λ k. (c.slice_known-1.given k).fits) c.requires.0.room l.i c.loop-i-test.true l.sum l.invariant.1 _ (next_sum c.args.items.now l.i l.sum c.loop-i-test.true l.invariant.1) c.args.s c.requires.0.sizes _ l.invariant.2 c.args.universe c.requires.1

pub loop-i-preserved : goal.loop-i-preserved
loop-i-preserved c = let l = c.loop-i in let e : suc l.i ≡ l.i + 1 = omega arith in let f = c.file.ensures ∙ filing.files c.args.items.now c.requires.0.summable c.args.buffer.now (λ k. (c.slice_known-1.given k).fits) c.requires.0.room l.i c.loop-i-test.true _ (next_sum c.args.items.now l.i l.sum c.loop-i-test.true l.invariant.1) c.args.universe c.requires.1 _ l.invariant.3 ∙ ap (filed_first c.args.items.now c.args.buffer.now) e in (omega (arith, c.loop-i-test.true), next_sum c.args.items.now l.i l.sum c.loop-i-test.true l.invariant.1 ∙ ap (λ (k : ℕ). sum_of (take k c.args.items.now)) e, ap length f ∙ listing.length_held (suc (sum_of c.args.items.now)) (length c.args.items.now) (sums c.args.items.now) (filing.fits c.args.items.now c.requires.0.summable) (sums-law.length-sums 0 c.args.items.now) c.args.buffer.now (λ k. (c.slice_known-1.given k).fits) c.requires.0.room (take (l.i + 1) (sums c.args.items.now)), f)

pub shape_of-buffer : goal.shape_of-buffer
shape_of-buffer c = c.loop-i.invariant.2

pub returns : goal.returns
returns c = let l = c.loop-i in l.invariant.3 ∙ ap (filed_first c.args.items.now c.args.buffer.now) (let e : l.i ≡ length c.args.items.now = omega (arith, c.loop-i-test.false, l.invariant.0) in e) ∙ listing.ends (suc (sum_of c.args.items.now)) (length c.args.items.now) (sums c.args.items.now) (filing.fits c.args.items.now c.requires.0.summable) (sums-law.length-sums 0 c.args.items.now) c.args.buffer.now (λ k. (c.slice_known-1.given k).fits) c.requires.0.room
