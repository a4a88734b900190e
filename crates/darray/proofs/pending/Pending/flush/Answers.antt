-- `darray::pending::Pending::flush` meets its contract.
-- Assumes nothing.
use Rattle.std.proofs.Common.{arith, ℕ, ◌≡◌, ◌+◌, ◌≤◌, ◌∙◌, ap, refl, get_or, length}
use Rattle.darray.specs.Pending.{put, lanes_at, over_at}
use Rattle.darray.proofs.Flush as flush
use Rattle.darray.proofs.pending.Pending.flush.Goals as goal

pub shared_ref_as_front-copy_from_slice : goal.shared_ref_as_front-copy_from_slice
shared_ref_as_front-copy_from_slice c = omega (arith, c.spill-more.ensures, flush.spill_few c.args.self.now.positions c.args.self.now.count, c.requires.1.few)

pub returns : goal.returns
returns c =
    let a = c.args in
    let p = c.requires.1 in
    let at : ℕ = a.s.entries + c.div_ceil.result + a.over in
    let few : c.spill-more.result ≤ 1024 = omega (arith, c.spill-more.ensures, flush.spill_few a.self.now.positions a.self.now.count, p.few) in
    let is : at ≡ over_at a.s a.over = omega arith in
    let room : at + c.spill-more.result ≤ length c.put_lanes.new.out = omega (arith, c.spill-more.ensures, p.over_room, flush.lanes-length a.self.now.positions a.self.now.count a.block (lanes_at a.s a.block) a.over (over_at a.s a.over) a.out.now _ a.out.now c.overflows-wide.result c.entry.result 0 c.put_lanes.ensures) in
    let long : c.spill-more.result ≤ length a.self.now.positions = omega arith in (
      c.spill-more.ensures,
      refl,
      flush.flush_is a.self.now.positions a.self.now.count a.block (lanes_at a.s a.block) a.over (over_at a.s a.over) a.out.now _ _ c.overflows-wide.result c.entry.result c.spill-more.result c.put_lanes.ensures c.overflows-wide.ensures c.entry.ensures c.spill-more.ensures
          (flush.put_copied c.put_lanes.new.out at (at + c.spill-more.result) a.self.now.positions c.copy_from_slice.new.self c.spill-more.result refl room long c.copy_from_slice.ensures.after
          ∙ ap (λ (k : ℕ). put c.put_lanes.new.out k (λ i. get_or a.self.now.positions i 0) c.spill-more.result) is),
    )
