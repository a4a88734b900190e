-- `word_files::reading::load_all` meets its contract. The measure is how many words are left. Assumes nothing.
use Rattle.std.proofs.Common.{◌-◌, ◌≤◌, length}
use Rattle.word_files.proofs.reading.load_all.Given as goal

abbrev pub invariant-loop-m : goal.invariant-loop-m
invariant-loop-m l = l.n ≤ length l.initial.words

abbrev pub decreases-loop-m : goal.decreases-loop-m
decreases-loop-m l = length l.initial.words - l.n
