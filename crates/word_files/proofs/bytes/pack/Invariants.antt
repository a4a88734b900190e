-- `word_files::bytes::pack` meets its contract. The invariant: the bytes that are left go where those before them end. Assumes nothing.
use Rattle.std.proofs.Common.{◌≡◌, ◌*◌, ◌-◌, drop, take}
use Rattle.word_files.specs.Bytes.{bytes_of}
use lib.Seq.{sets}
use Rattle.word_files.proofs.bytes.pack.Given as goal

abbrev pub invariant-loop-i : goal.invariant-loop-i
invariant-loop-i l = sets l.initial.bytes 0 (bytes_of (take l.n l.words)) ≡ sets l.bytes (8 * l.i) (bytes_of (take (l.n - l.i) (drop l.i l.words)))
