-- `darray::select_built` meets its contract.
-- Assumes nothing.
use Rattle.errors.specs.declared.Refusal.{Refusal}
use Rattle.std.specs.Prelude.{ℕ, Option, Result}
use Rattle.errors.proofs.Passing as passing
use mathlib.Core.Path.{sym, ap, ap₂, ◌∙◌}
use lib.Seq.{length-take-le}
use Rattle.errors.specs.Answer.{leaves, of_option, of_optional}
use Rattle.darray.proofs.Built as made
use Rattle.darray.proofs.select_built.Goals as goal

pub returns-in_err-n : goal.returns-in_err-n
returns-in_err-n c = ap (λ (r : Result (Option ℕ) Refusal). leaves (of_optional r) c.build.new.out) (passing.refused_so _ _ c.from_residual.ensures.1) ∙ made.refused_so c.args.words.now c.args.len c.args.over_one c.args.out.now _ c.args.k c.build.new.out c.in_err-n.ensures

pub returns-in_err-s : goal.returns-in_err-s
returns-in_err-s c = let m = made.made_so c.args.words.now c.args.len c.args.over_one c.args.out.now c.in_ok-n.n c.build.new.out c.in_ok-n.ensures in absurd (made.measures c.args.words.now c.args.len c.args.over_one c.args.out.now _ m.ok m.short c.in_err-s.ensures)

pub slice_bounds-select-end : goal.slice_bounds-select-end
slice_bounds-select-end c = let m = made.made_so c.args.words.now c.args.len c.args.over_one c.args.out.now c.in_ok-n.n c.build.new.out c.in_ok-n.ensures in made.fits c.args.words.now c.args.len c.args.over_one c.args.out.now c.in_ok-n.n c.build.new.out m

pub slice_bounds-select-end-2 : goal.slice_bounds-select-end-2
slice_bounds-select-end-2 c = let m = made.made_so c.args.words.now c.args.len c.args.over_one c.args.out.now c.in_ok-n.n c.build.new.out c.in_ok-n.ensures in sym (length-take-le c.in_ok-n.n c.build.new.out (made.fits c.args.words.now c.args.len c.args.over_one c.args.out.now c.in_ok-n.n c.build.new.out m))

pub select-requires : goal.select-requires
select-requires c =
    let m = made.made_so c.args.words.now c.args.len c.args.over_one c.args.out.now c.in_ok-n.n c.build.new.out c.in_ok-n.ensures in
    record {
      ok = m.ok;
      short = m.short;
      is = made.front c.args.words.now c.args.len c.args.over_one c.args.out.now c.in_ok-n.n c.build.new.out m;
      number = made.positions_so c.args.words.now c.args.len c.args.over_one c.args.out.now _ _ _ _ m.ok m.short c.in_ok-s.ensures;
    }

pub returns : goal.returns
returns c = let m = made.made_so c.args.words.now c.args.len c.args.over_one c.args.out.now c.in_ok-n.n c.build.new.out c.in_ok-n.ensures in ap₂ leaves (ap of_option c.select.ensures) m.words ∙ sym (made.select_ok c.args.words.now c.args.len c.args.over_one c.args.out.now c.args.k m.ok m.short m.room)
