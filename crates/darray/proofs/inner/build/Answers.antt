-- `darray::inner::build` meets its contract.
-- Assumes nothing.
use Rattle.std.specs.Prelude.{Result}
use Rattle.errors.specs.declared.Refusal.{Refusal}
use Rattle.errors.specs.Answer.{leaves, of_result}
use Rattle.bit_words.proofs.Valid.{refused_bits}
use mathlib.Core.Path.{ap, ◌≡◌, sym, ◌∙◌, subst}
use Prim.Native.Nat.{ℕ, ◌≤◌, ◌<◌}
use lib.ListN.{length}
use Rattle.bit_words.proofs.Valid.{valid}
use Rattle.darray_positions.specs.Positions.{positions}
use Rattle.darray_positions.specs.Index.{index_words}
use Rattle.darray.proofs.Building as building
use Rattle.darray.proofs.Cases as cases
use Rattle.darray.proofs.inner.build.Goals as goal

pub returns-in_err-checked : goal.returns-in_err-checked
returns-in_err-checked c = ap (λ (r : Result ℕ Refusal). leaves (of_result r) c.args.out.now) (refused_bits _ _ c.from_residual.ensures.1 c.in_err-checked.ensures.0) ∙ sym (cases.build_13 _ _ _ _ c.in_err-checked.ensures.1)

pub returns-then-len-ge-MAX_LEN : goal.returns-then-len-ge-MAX_LEN
returns-then-len-ge-MAX_LEN c = sym (cases.build_2 _ _ _ _ c.in_ok-checked.ensures c.if-len-ge-MAX_LEN.true)

pub sizes_of-s-requires : goal.sizes_of-s-requires
sizes_of-s-requires c = ((valid _ _ c.in_ok-checked.ensures).room, c.if-len-ge-MAX_LEN.false)

pub total-n-requires : goal.total-n-requires
total-n-requires c =
    let a = c.args in
    building.sizes_lt (positions a.over_one a.words.now a.len) c.sizes_of-s.result c.sizes_of-s.ensures (building.positions_lt a.over_one a.words.now a.len c.if-len-ge-MAX_LEN.false)

pub returns-then-out-n : goal.returns-then-out-n
returns-then-out-n c =
    let total : c.total-n.result ≡ length (index_words (positions c.args.over_one c.args.words.now c.args.len)) = let a = c.args in
    c.total-n.ensures ∙ building.index_length (positions a.over_one a.words.now a.len) c.sizes_of-s.result c.sizes_of-s.ensures in
    let a = c.args in
    sym (cases.build_3 _ _ _ _ c.in_ok-checked.ensures c.if-len-ge-MAX_LEN.false (subst (λ (n : ℕ). length a.out.now < n) (total) c.if-out-n.true))

pub write-requires : goal.write-requires
write-requires c =
    let total : c.total-n.result ≡ length (index_words (positions c.args.over_one c.args.words.now c.args.len)) = let a = c.args in
    c.total-n.ensures ∙ building.index_length (positions a.over_one a.words.now a.len) c.sizes_of-s.result c.sizes_of-s.ensures in
    let a = c.args in
    record {
      positions = c.sizes_of-s.ensures.positions;
      entries = c.sizes_of-s.ensures.entries;
      lanes = c.sizes_of-s.ensures.lanes;
      words = (valid _ _ c.in_ok-checked.ensures).room;
      few = c.if-len-ge-MAX_LEN.false;
      room = subst (λ (n : ℕ). n ≤ length a.out.now) (total) c.if-out-n.false;
    }

pub returns : goal.returns
returns c =
    let total : c.total-n.result ≡ length (index_words (positions c.args.over_one c.args.words.now c.args.len)) = let a = c.args in
    c.total-n.ensures ∙ building.index_length (positions a.over_one a.words.now a.len) c.sizes_of-s.result c.sizes_of-s.ensures in
    let a = c.args in
    cases.build_ok _ _ _ _ c.in_ok-checked.ensures c.if-len-ge-MAX_LEN.false
    (subst (λ (n : ℕ). n ≤ length a.out.now) (total) c.if-out-n.false) _ _ (total) c.write.ensures.0
