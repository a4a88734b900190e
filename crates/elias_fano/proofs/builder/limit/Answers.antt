-- `elias_fano::builder::limit` meets its contract.
-- Assumes nothing.
use native.Mathlib.Omega.{arith}
use Rattle.elias_fano_words.proofs.Limit.{limit_ready}
use Rattle.elias_fano.proofs.Cases as cases
use Rattle.elias_fano.proofs.builder.limit.Goals as goal

pub returns-then-num_vals-eq0 : goal.returns-then-num_vals-eq0
returns-then-num_vals-eq0 c = let a = c.args in cases.limit_1 a.universe a.num_vals a.rank c.if-num_vals-eq0.true

pub returns-then-num_vals-gt-MAX_VALS : goal.returns-then-num_vals-gt-MAX_VALS
returns-then-num_vals-gt-MAX_VALS c = let a = c.args in cases.limit_2 a.universe a.num_vals a.rank c.if-num_vals-eq0.false c.if-num_vals-gt-MAX_VALS.true

pub limit_of-requires : goal.limit_of-requires
limit_of-requires c =
    let a = c.args in
    limit_ready a.universe a.num_vals (omega (arith, c.well_formed)) (omega (arith, c.if-num_vals-eq0.false)) c.if-num_vals-gt-MAX_VALS.false c.of_record-s.result c.of_record-s.ensures

pub returns : goal.returns
returns c =
    let a = c.args in
    cases.limit_value a.universe a.num_vals a.rank c.if-num_vals-eq0.false c.if-num_vals-gt-MAX_VALS.false _ (c.limit_of.ensures a.universe c.of_record-s.ensures)
