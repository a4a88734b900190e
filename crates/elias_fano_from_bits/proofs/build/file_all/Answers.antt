-- `elias_fano_from_bits::build::file_all` meets its contract: the invariant says that the first i places are filed, and that the walk has taken their ones.
-- Assumes nothing.
use mathlib.Core.Path.{◌≡◌, refl, sym, ap, ◌∙◌, subst⁻¹}
use Prim.Native.Nat.{ℕ, suc, ◌+◌}
use native.Mathlib.Numerals.{add-one}
use lib.ListN.{length, take}
use Rattle.bit_words.proofs.Runs.{Fit}
use Rattle.elias_fano_words.specs.Times.{last_of}
use Rattle.elias_fano.proofs.Listing as listing
use Rattle.elias_fano_from_bits.specs.Building.{OnesTaken}
use Rattle.elias_fano_from_bits.specs.FromBits.{ones_of}
use Rattle.elias_fano_from_bits.proofs.Filing as filing
use Rattle.elias_fano_from_bits.proofs.Filing.{filed_first}
use Rattle.elias_fano_from_bits.proofs.Ones as ones
use Rattle.elias_fano_from_bits.proofs.Taking as taking
use Rattle.elias_fano_from_bits.proofs.build.file_all.Goals as goal

pub walk_from-w-requires : goal.walk_from-w-requires
walk_from-w-requires c = taking.begin_room c.args.words.now c.args.len c.requires.0.sizable.countable

pub loop-i-init : goal.loop-i-init
loop-i-init c =
    let ws = c.args.words.now in (
      refl,
      c.requires.1 ∙ listing.begins c.args.len (length (ones_of ws c.args.len)) (ones_of ws c.args.len) (ones.fits ws c.args.len c.requires.0.sizable.countable) refl c.args.buffer.now (λ k. (c.slice_known-1.given k).fits) c.requires.0.room,
      taking.begun ws c.args.len c.requires.0.sizable.countable _ c.walk_from-w.ensures,
      refl,
    )

pub file-requires : goal.file-requires
file-requires c =
    let l = c.loop-i in
    let z = c.requires.0.sizable in
    filing.fileable c.args.words.now c.args.len z.countable c.args.n z.number c.args.buffer.now (λ k. (c.slice_known-1.given k).fits) c.requires.0.room
    l.i c.loop-i-test.true l.last l.invariant.3 _ c.take_one-one.ensures.place c.args.s z.sizes _ l.invariant.0

pub loop-i-preserved : goal.loop-i-preserved
loop-i-preserved c =
    let l = c.loop-i in
    let ws = c.args.words.now in
    let z = c.requires.0.sizable in
    let t = c.take_one-one.ensures in
    let fw : Fit c.args.buffer.now = λ k. (c.slice_known-1.given k).fits in
    let h = c.loop-i-test.true in
    let e : suc l.i ≡ l.i + 1 = sym (add-one l.i) in
    let f = c.file.ensures
    ∙ filing.files ws c.args.len z.countable c.args.n z.number c.args.buffer.now fw c.requires.0.room l.i h _ t.place _ l.invariant.1
    ∙ ap (filed_first ws c.args.len c.args.buffer.now) e in (
      ap length f ∙ listing.length_held c.args.len (length (ones_of ws c.args.len)) (ones_of ws c.args.len) (ones.fits ws c.args.len z.countable) refl c.args.buffer.now fw c.requires.0.room (take (l.i + 1) (ones_of ws c.args.len)),
      f,
      subst⁻¹ (λ (k : ℕ). OnesTaken ws c.args.len k c.take_one-one.result.rest) (add-one l.i) t.rest,
      filing.last_next ws c.args.len z.countable c.args.n z.number c.args.buffer.now fw c.requires.0.room l.i h _ t.place ∙ ap (λ (k : ℕ). last_of (take k (ones_of ws c.args.len))) e,
    )
