-- `word_files::saving::write_words` is safe and ends. Assumes nothing.
use Rattle.std.proofs.Common.{◌≡◌, length}
use Rattle.word_files.proofs.saving.write_words.Given as goal

abbrev pub invariant-loop-part : goal.invariant-loop-part
invariant-loop-part l = (goal.iterator-loop-part).can_next l.part-iterator × (goal.iterator-loop-part).is_finite l.part-iterator × (length l.buf ≡ 65536)
