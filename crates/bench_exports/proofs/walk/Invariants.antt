-- `bench_exports::walk` is safe and ends. The invariant: it is a walk over these bits. The measure: what is left of the length from its first
-- place not yet taken on. Assumes nothing.
use Rattle.std.proofs.Common.{◌-◌}
use Rattle.bit_vectors.specs.Walk.{Walking}
use Rattle.bench_exports.proofs.walk.Given as goal

abbrev pub invariant-loop-p : goal.invariant-loop-p
invariant-loop-p l = Walking l.words l.len l.w

abbrev pub decreases-loop-p : goal.decreases-loop-p
decreases-loop-p l = l.len - l.w.from
