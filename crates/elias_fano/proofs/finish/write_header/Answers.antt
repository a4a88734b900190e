-- `elias_fano::finish::write_header` meets its contract.
-- Assumes nothing.
use borrow.Author.Rules.{rules}
use Prim.Native.Nat.{◌<◌}
use native.Mathlib.Omega.{arith}
use lib.ListN.{length}
use Rattle.elias_fano.proofs.Measuring as measuring
use Rattle.elias_fano.proofs.finish.write_header.Goals as goal

pub bounds-buffer-1 : goal.bounds-buffer-1
bounds-buffer-1 c = let h : 1 < length c.args.buffer.now = omega (arith, c.requires) in search rules

pub bounds-buffer-2 : goal.bounds-buffer-2
bounds-buffer-2 c = let h : 2 < length c.args.buffer.now = omega (arith, c.requires) in search rules

pub bounds-buffer-3 : goal.bounds-buffer-3
bounds-buffer-3 c = let h : 3 < length c.args.buffer.now = omega (arith, c.requires) in search rules

pub bounds-buffer-4 : goal.bounds-buffer-4
bounds-buffer-4 c = let h : 4 < length c.args.buffer.now = omega (arith, c.requires) in search rules

pub returns : goal.returns
returns c = let a = c.args in measuring.header_set a.buffer.now a.b.universe a.b.num_vals a.b.num_pushed _ a.ones a.zeros c.requires
