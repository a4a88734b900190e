-- `prefix_summed_elias_fano::build::file_sums` meets its contract.
-- Assumes nothing.
use mathlib.Core.Path.{sym, ap, ◌∙◌, subst}
use mathlib.Core.List.{List, ◌++◌}
use Prim.Native.Nat.{ℕ, suc, ◌≤◌}
use native.Mathlib.Omega.{arith}
use Rattle.prefix_summed_elias_fano.specs.Sums.{sum as sum_of, sums}
use lib.ListN.{length, drop, replicate}
use Rattle.elias_fano_words.specs.Sizes.{start_len}
use Rattle.elias_fano_words.specs.declared.sizes.Sizes.{Sizes}
use Rattle.elias_fano.proofs.Listing as listing
use Rattle.prefix_summed_elias_fano.proofs.Filing as filing
use Rattle.prefix_summed_elias_fano.proofs.Sums as sums-law
use Rattle.prefix_summed_elias_fano.proofs.build.file_sums.Goals as goal

pub fill-requires : goal.fill-requires
fill-requires c = let a = ap (λ (z : Sizes). z.start_len) c.requires.0.sizes in omega (arith, c.requires.0.room)

pub file_all-requires : goal.file_all-requires
file_all-requires c = let e = c.fill.ensures ∙ ap (λ (k : ℕ). replicate k 0 ++ drop k c.args.buffer.now) (ap (λ (z : Sizes). z.start_len) c.requires.0.sizes) in let h = listing.zeroed (suc (sum_of c.args.items.now)) (length c.args.items.now) (sums c.args.items.now) (filing.fits c.args.items.now c.requires.0.summable) (sums-law.length-sums 0 c.args.items.now) c.args.buffer.now (λ k. (c.slice_known-1.given k).fits) c.requires.0.room _ e in (record { summable = c.requires.0.summable; sizes = c.requires.0.sizes; room = subst (λ (k : ℕ). start_len (suc (sum_of c.args.items.now)) (length c.args.items.now) ≤ k) (sym h.1) c.requires.0.room }, c.requires.1, e ∙ ap (λ (D : List ℕ). replicate (start_len (suc (sum_of c.args.items.now)) (length c.args.items.now)) 0 ++ D) (sym h.0))

pub returns : goal.returns
returns c = let e = c.fill.ensures ∙ ap (λ (k : ℕ). replicate k 0 ++ drop k c.args.buffer.now) (ap (λ (z : Sizes). z.start_len) c.requires.0.sizes) in let h = listing.zeroed (suc (sum_of c.args.items.now)) (length c.args.items.now) (sums c.args.items.now) (filing.fits c.args.items.now c.requires.0.summable) (sums-law.length-sums 0 c.args.items.now) c.args.buffer.now (λ k. (c.slice_known-1.given k).fits) c.requires.0.room _ e in c.file_all.ensures ∙ listing.same_later (suc (sum_of c.args.items.now)) (length c.args.items.now) (sums c.args.items.now) (filing.fits c.args.items.now c.requires.0.summable) (sums-law.length-sums 0 c.args.items.now) c.args.buffer.now (λ k. (c.slice_known-1.given k).fits) c.requires.0.room _ h.0
