-- `bench_exports::record::walk_on` is safe and ends. The invariant: the walk is one. Assumes nothing.
use Rattle.elias_fano_walk.specs.Walking.{WalkOver}
use Rattle.bench_exports.proofs.record.walk_on.Given as goal

abbrev pub invariant-loop : goal.invariant-loop
invariant-loop l = WalkOver l.image.words.now l.image.parts l.w
