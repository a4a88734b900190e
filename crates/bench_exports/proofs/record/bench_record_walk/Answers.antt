-- `bench_exports::record::bench_record_walk` is safe and ends. Assumes nothing.
use Rattle.bench_exports.proofs.record.bench_record_walk.Goals as goal

pub walk_on-requires : goal.walk_on-requires
walk_on-requires c = c.begin.ensures.0
