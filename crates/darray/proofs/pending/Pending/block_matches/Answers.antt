-- `darray::pending::Pending::block_matches` meets its contract.
-- Assumes nothing.
use Rattle.std.proofs.Common.{arith, ℕ, ◌≡◌, ◌+◌, ◌≤◌, ◌∙◌, sym, refl, subst, get_or, length}
use Rattle.darray.specs.Pending.{Reads, block_spill, over_at}
use Rattle.darray.proofs.Flush as flush
use Rattle.darray.proofs.Matching as matching
use Rattle.darray.proofs.pending.Pending.block_matches.Goals as goal

pub returns-then-index-block : goal.returns-then-index-block
returns-then-index-block c =
    let a = c.args in
    matching.it_is_not (λ m. c.if-index-block.true (m.entry ∙ sym (flush.entry_is a.self.now.positions a.self.now.count a.over c.entry.result c.overflows-wide.result c.overflows-wide.ensures c.entry.ensures)))

pub shared_ref_as_front-eq : goal.shared_ref_as_front-eq
shared_ref_as_front-eq c = omega (arith, c.spill-more.ensures, flush.spill_few c.args.self.now.positions c.args.self.now.count, c.requires.1.few)

pub returns : goal.returns
returns c =
    let a = c.args in
    let p = c.requires.1 in
    let at : ℕ = a.s.entries + c.div_ceil.result + a.over in
    let n : ℕ = c.spill-more.result in
    let few : n ≤ 1024 = omega (arith, c.spill-more.ensures, flush.spill_few a.self.now.positions a.self.now.count, p.few) in
    let is : at ≡ over_at a.s a.over = omega arith in
    let room : at + n ≤ length a.index.now = omega (arith, c.spill-more.ensures, p.over_room) in
    let long : n ≤ length a.self.now.positions = omega arith in
    matching.decides_by {A = Reads a.index.now at (λ i. get_or a.self.now.positions i 0) n} c.eq.result (matching.reads_is a.index.now at (at + n) a.self.now.positions n c.eq.result refl room long c.eq.ensures)
    (λ r. record {
      entry = c.if-index-block.false ∙ flush.entry_is a.self.now.positions a.self.now.count a.over c.entry.result c.overflows-wide.result c.overflows-wide.ensures c.entry.ensures;
      lane_words = c.lanes_match.ensures.yes c.if-not-lanes_match.false;
      spilled = subst (λ (k : ℕ). Reads a.index.now k (λ i. get_or a.self.now.positions i 0) (block_spill a.self.now.positions a.self.now.count)) is (subst (Reads a.index.now at (λ i. get_or a.self.now.positions i 0)) c.spill-more.ensures r);
    })
    (λ m. subst (Reads a.index.now at (λ i. get_or a.self.now.positions i 0)) (sym c.spill-more.ensures) (subst (λ (k : ℕ). Reads a.index.now k (λ i. get_or a.self.now.positions i 0) (block_spill a.self.now.positions a.self.now.count)) (sym is) m.spilled))
