-- `bench_exports::bench_walk` is safe and ends: `new` begins a walk. Assumes nothing.
use Rattle.bench_exports.proofs.Keeps.{new_keeps}
use Rattle.bench_exports.proofs.bench_walk.Goals as goal

pub walk-requires : goal.walk-requires
walk-requires c = new_keeps c.args.words.now c.args.len 0 c.in-Ok.w c.in-Ok.ensures
