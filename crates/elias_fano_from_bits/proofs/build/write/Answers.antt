-- `elias_fano_from_bits::build::write` meets its contract.
-- Assumes nothing.
use Rattle.elias_fano_from_bits.proofs.Filing as filing
use Rattle.elias_fano_from_bits.proofs.build.write.Goals as goal

pub file_ones-last-requires : goal.file_ones-last-requires
file_ones-last-requires c =
    record { sizable = c.requires.sizable; room = filing.start-room c.args.words.now c.args.len c.requires.sizable.countable c.args.rank _ c.requires.room }

pub write_image-requires : goal.write_image-requires
write_image-requires c =
    let a = c.args in
    let z = c.requires.sizable in
    let q = c.file_ones-last.ensures in
    filing.ready a.words.now a.len z.countable a.j.ones z.number a.buffer.now (λ k. (c.slice_known-1.given k).fits) (filing.start-room a.words.now a.len z.countable a.rank _ c.requires.room) a.rank _ q.1 _ q.0 a.j.sizes z.sizes c.requires.room

pub returns : goal.returns
returns c =
    let a = c.args in
    let z = c.requires.sizable in
    let q = c.file_ones-last.ensures in
    let e = c.write_image.ensures in (
      filing.wrote a.words.now a.len z.countable a.j.ones z.number a.buffer.now (λ k. (c.slice_known-1.given k).fits) (filing.start-room a.words.now a.len z.countable a.rank _ c.requires.room) a.rank _ q.1 _ q.0 _ e.0,
      filing.wrote_length a.words.now a.len z.countable a.j.ones z.number a.buffer.now (λ k. (c.slice_known-1.given k).fits) (filing.start-room a.words.now a.len z.countable a.rank _ c.requires.room) a.rank _ q.1 _ q.0 _ e.1,
    )
