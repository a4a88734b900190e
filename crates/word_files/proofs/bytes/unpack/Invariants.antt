-- `word_files::bytes::unpack` meets its contract. The invariant: the words that are left go where those before them end. Assumes nothing.
use Rattle.std.proofs.Common.{◌≡◌, ◌*◌, ◌-◌, drop}
use Rattle.word_files.specs.Bytes.{words_of}
use lib.Seq.{sets}
use Rattle.word_files.proofs.bytes.unpack.Given as goal

abbrev pub invariant-loop-i : goal.invariant-loop-i
invariant-loop-i l = sets l.initial.words 0 (words_of l.n l.bytes) ≡ sets l.words l.i (words_of (l.n - l.i) (drop (8 * l.i) l.bytes))
