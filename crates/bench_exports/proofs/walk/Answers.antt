-- `bench_exports::walk` is safe and ends. The invariant: it is a walk over these bits. The measure: what is left of the length from its first
-- place not yet taken on. Assumes nothing.
use mathlib.Core.Path.{sym, ◌∙◌}
use Rattle.bench_exports.proofs.Keeps.{step_keeps}
use Rattle.bench_exports.proofs.walk.Goals as goal

pub loop-p-smaller : goal.loop-p-smaller
loop-p-smaller c = (step_keeps c.args.words.now c.args.len c.loop-p.w c.next_within-s.result c.in-Some.p c.loop-p.invariant c.next_within-s.ensures (sym c.unwrap_or.ensures ∙ c.in-Some.is)).1

pub loop-p-preserved : goal.loop-p-preserved
loop-p-preserved c = (step_keeps c.args.words.now c.args.len c.loop-p.w c.next_within-s.result c.in-Some.p c.loop-p.invariant c.next_within-s.ensures (sym c.unwrap_or.ensures ∙ c.in-Some.is)).0
