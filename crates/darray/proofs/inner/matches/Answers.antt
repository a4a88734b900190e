-- `darray::inner::matches` meets its contract.
-- Assumes nothing.
use Rattle.std.proofs.Common.{arith, ℕ, ◌≡◌, ◌+◌, ◌∙◌, ap, subst, length}
use Rattle.std.proofs.lemmas.Bool.{eqb-true, eqb-false}
use Rattle.std.proofs.Math.ListN.{length-replicate}
use Rattle.darray.specs.Pending.{Compares}
use Rattle.darray.proofs.Comparing as comparing
use Rattle.darray.proofs.Comparing.{BlocksCompared}
use Rattle.darray.proofs.Matching.{it_is_not}
use Rattle.darray.proofs.inner.matches.Goals as goal
use Rattle.darray.proofs.inner.matches.Goals.{In-Some}

pub loop-j-init : goal.loop-j-init
loop-j-init c = comparing.compared_none c.args.over_one c.args.words.now c.args.len c.args.s c.args.index.now _ (ap length c.empty-p.ensures.0 ∙ length-replicate {A = ℕ} 1024 0)

pub load-at-requires : goal.load-at-requires
load-at-requires c =
    let a = c.args in
    let l = c.loop-j in
    comparing.load_ready a.over_one a.words.now a.len a.s a.index.now c.requires l.p.positions l.at l.over l.j l.invariant (omega arith)

pub compare-requires : goal.compare-requires
compare-requires c =
    let a = c.args in
    let l = c.loop-j in
    comparing.comparing a.over_one a.words.now a.len a.s a.index.now c.requires l.p.positions l.at l.over l.j l.invariant (omega arith) c.load-at.new.self.count c.load-at.ensures.1 c.load-at.new.self.positions c.load-at.result c.load-at.ensures.0

pub returns-in_default : goal.returns-in_default
returns-in_default c =
    let a = c.args in
    let l = c.loop-j in
    it_is_not
    (λ e. subst (Compares c.load-at.new.self.positions c.load-at.new.self.count a.s l.j l.over a.index.now) c.in_default.is c.compare.ensures
    (comparing.index_same a.over_one a.words.now a.len a.s a.index.now c.requires l.p.positions l.at l.over l.j l.invariant (omega arith) c.load-at.new.self.count c.load-at.ensures.1 c.load-at.new.self.positions c.load-at.result c.load-at.ensures.0 e))

-- one block more is compared
next : (c : In-Some) → BlocksCompared c.args.over_one c.args.words.now c.args.len c.args.s c.args.index.now c.load-at.new.self.positions c.load-at.result (c.loop-j.over + c.in-Some.more) (c.loop-j.j + 1)
next c =
    let a = c.args in
    let l = c.loop-j in
    let m = subst (Compares c.load-at.new.self.positions c.load-at.new.self.count a.s l.j l.over a.index.now) c.in-Some.is c.compare.ensures in
    comparing.compared_next a.over_one a.words.now a.len a.s a.index.now c.requires l.p.positions l.at l.over l.j l.invariant (omega arith) c.load-at.new.self.count c.load-at.ensures.1 c.load-at.new.self.positions c.load-at.result c.load-at.ensures.0 c.in-Some.more m.0 m.1

pub overflow_add-over : goal.overflow_add-over
overflow_add-over c =
    let a = c.args in
    omega (arith, comparing.spilled_lt a.over_one a.words.now a.len a.s a.index.now c.requires _ _ (c.loop-j.over + c.in-Some.more) (c.loop-j.j + 1) (next c))

pub loop-j-preserved : goal.loop-j-preserved
loop-j-preserved c = next c

pub returns : goal.returns
returns c =
    let a = c.args in
    let l = c.loop-j in
    let e : l.j ≡ a.s.entries = omega arith in
    record {
      yes = λ h. comparing.is_index a.over_one a.words.now a.len a.s a.index.now c.requires l.p.positions l.at l.over l.j l.invariant e (eqb-true _ _ h);
      no = λ h i. eqb-false _ _ h (comparing.index_all a.over_one a.words.now a.len a.s a.index.now c.requires l.p.positions l.at l.over l.j l.invariant e i);
    }
