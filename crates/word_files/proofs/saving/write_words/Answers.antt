-- `word_files::saving::write_words` is safe and ends. Assumes nothing.
use Rattle.std.proofs.Common.{arith}
use Rattle.word_files.proofs.Packing.{pack_count}
use Rattle.word_files.proofs.saving.write_words.Goals as goal

pub overflow_mul-n : goal.overflow_mul-n
overflow_mul-n c = omega (arith, pack_count _ _ c.in-Some.part.now c.loop-part.buf c.pack-n.ensures)

pub shared_ref_as_front-write_all : goal.shared_ref_as_front-write_all
shared_ref_as_front-write_all c = omega (arith, pack_count _ _ c.in-Some.part.now c.loop-part.buf c.pack-n.ensures)
