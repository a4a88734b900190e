-- `ffi::many::put` meets its contract.
-- Assumes nothing.
use Prim.Native.Nat.{◌*◌}
use Rattle.ffi.proofs.Answering as answering
use Rattle.ffi.proofs.many.put.Goals as goal

pub returns : goal.returns
returns c = answering.two-stored c.args.out.now (2 * c.args.i) c.args.a.kind c.args.a.value c.requires
