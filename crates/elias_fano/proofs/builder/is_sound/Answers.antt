-- `elias_fano::builder::is_sound` meets its contract.
-- Assumes nothing.
use mathlib.Core.Path.{sym}
use Rattle.elias_fano.proofs.Cases as cases
use Rattle.elias_fano.proofs.builder.is_sound.Goals as goal

pub returns-then-b-eq0 : goal.returns-then-b-eq0
returns-then-b-eq0 c = sym (cases.none_declared _ c.if-b-eq0.true)

pub returns-then-b-gt-MAX_VALS : goal.returns-then-b-gt-MAX_VALS
returns-then-b-gt-MAX_VALS c = sym (cases.many_declared _ c.if-b-gt-MAX_VALS.true)

pub returns-then-b : goal.returns-then-b
returns-then-b c = sym (cases.past-declared _ c.if-b-eq0.false c.if-b-gt-MAX_VALS.false c.if-b.true)

pub returns-then-b-eq0-2 : goal.returns-then-b-eq0-2
returns-then-b-eq0-2 c = sym (cases.none_pushed _ c.if-b-eq0.false c.if-b-gt-MAX_VALS.false c.if-b.false c.if-b-eq0-2.true)

pub returns : goal.returns
returns c = sym (cases.some_pushed _ c.if-b-eq0.false c.if-b-gt-MAX_VALS.false c.if-b.false c.if-b-eq0-2.false)
