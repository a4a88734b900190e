-- `darray::inner::write` meets its contract.
-- Assumes nothing.
use Rattle.std.proofs.Common.{arith, List, ℕ, ◌+◌, ◌≡◌, ◌∙◌, sym, ap, subst, length}
use Rattle.std.proofs.Math.ListN.{length-replicate}
use Rattle.darray.specs.declared.pending.Pending.{Pending}
use Rattle.darray.proofs.Writing as writing
use Rattle.darray.proofs.Writing.{Writing}
use Rattle.darray.proofs.inner.write.Goals as goal

pub loop-j-init : goal.loop-j-init
loop-j-init c = writing.writing_none c.args.over_one c.args.words.now c.args.len c.args.out.now _ (ap length c.empty-p.ensures.0 ∙ length-replicate {A = ℕ} 1024 0)

pub load-from-requires : goal.load-from-requires
load-from-requires c =
    let a = c.args in
    let l = c.loop-j in
    writing.load_ready a.over_one a.words.now a.len a.out.now a.s c.requires l.out l.p.positions l.from l.over l.j l.invariant (omega arith)

pub flush-over-requires : goal.flush-over-requires
flush-over-requires c =
    let a = c.args in
    let l = c.loop-j in
    writing.flush_ready a.over_one a.words.now a.len a.out.now a.s c.requires l.out l.p.positions l.from l.over l.j l.invariant (omega arith) c.load-from.new.self.count c.load-from.ensures.1 c.load-from.new.self.positions c.load-from.result c.load-from.ensures.0

pub overflow_add-over : goal.overflow_add-over
overflow_add-over c =
    let a = c.args in
    let l = c.loop-j in
    let next = writing.writing_next a.over_one a.words.now a.len a.out.now a.s c.requires l.out l.p.positions l.from l.over l.j l.invariant (omega arith) c.load-from.new.self.count c.load-from.ensures.1 c.load-from.new.self.positions c.load-from.result c.load-from.ensures.0 c.flush-over.new.out c.flush-over.result c.flush-over.ensures.0 c.flush-over.ensures.2 in
    omega (arith, writing.spilled_lt a.over_one a.words.now a.len a.out.now a.s c.requires _ _ _ (l.over + c.flush-over.result) (l.j + 1) next)

pub loop-j-preserved : goal.loop-j-preserved
loop-j-preserved c =
    let a = c.args in
    let l = c.loop-j in
    subst (λ (x : List ℕ). Writing a.over_one a.words.now a.len a.out.now c.flush-over.new.out x c.load-from.result (l.over + c.flush-over.result) (l.j + 1)) (sym (ap (λ (p : Pending). p.positions) c.flush-over.ensures.1))
    (writing.writing_next a.over_one a.words.now a.len a.out.now a.s c.requires l.out l.p.positions l.from l.over l.j l.invariant (omega arith) c.load-from.new.self.count c.load-from.ensures.1 c.load-from.new.self.positions c.load-from.result c.load-from.ensures.0 c.flush-over.new.out c.flush-over.result c.flush-over.ensures.0 c.flush-over.ensures.2)

pub returns : goal.returns
returns c =
    let a = c.args in
    let l = c.loop-j in
    let e : l.j ≡ a.s.entries = omega arith in (
      writing.writing_all a.over_one a.words.now a.len a.out.now a.s c.requires l.out l.p.positions l.from l.over l.j l.invariant e,
      writing.spilled_all a.over_one a.words.now a.len a.out.now a.s c.requires l.out l.p.positions l.from l.over l.j l.invariant e,
    )
