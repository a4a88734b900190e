-- `word_files::reading::words_of` meets its contract. Assumes nothing.
use Rattle.std.proofs.Common.{arith}
use Rattle.word_files.proofs.Packing.{unpack_count}
use Rattle.word_files.proofs.reading.words_of.Goals as goal

pub returns-then-n-buf : goal.returns-then-n-buf
returns-then-n-buf c = omega (arith, unpack_count _ _ c.args.words.now c.args.buf.now c.unpack-n.ensures)
