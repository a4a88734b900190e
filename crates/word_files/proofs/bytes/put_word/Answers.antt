-- `word_files::bytes::put_word` meets its contract. Assumes nothing.
use Rattle.std.proofs.Common.{arith, ◌∙◌}
use Rattle.word_files.proofs.Packing.{put_digits}
use Rattle.word_files.proofs.bytes.put_word.Goals as goal

pub returns : goal.returns
returns c = put_digits c.args.at _ c.args.w c.args.bytes.now _ c.requires (omega arith) (c.copy_from_slice.ensures.after ∙ c.to_le_bytes.ensures)
