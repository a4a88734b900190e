-- `elias_fano_from_bits::measure::high_place` meets its contract.
-- Assumes nothing.
use mathlib.Core.Path.{sym, subst}
use mathlib.Core.Bool.{Bool}
use Rattle.elias_fano_from_bits.specs.Building.{Seekable, Seen}
use Rattle.elias_fano_from_bits.proofs.measure.high_place.Goals as goal

pub high_one-requires : goal.high_one-requires
high_one-requires c = (subst (λ (b : Bool). Seekable c.args.words.now c.args.len b c.args.l c.args.k c.args.from) c.if-over_one.true c.requires)

pub returns-then-over_one : goal.returns-then-over_one
returns-then-over_one c = subst (λ (b : Bool). Seen c.args.words.now c.args.len b c.args.l c.args.k c.high_one.result) (sym c.if-over_one.true) c.high_one.ensures

pub high_zero-requires : goal.high_zero-requires
high_zero-requires c = subst (λ (b : Bool). Seekable c.args.words.now c.args.len b c.args.l c.args.k c.args.from) c.if-over_one.false c.requires

pub returns : goal.returns
returns c = subst (λ (b : Bool). Seen c.args.words.now c.args.len b c.args.l c.args.k c.high_zero.result) (sym c.if-over_one.false) c.high_zero.ensures
