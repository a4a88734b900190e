-- `elias_fano::builder::are_zeros` meets its contract.
-- Assumes nothing.
use mathlib.Core.Path.{◌≡◌}
use mathlib.Core.Bool.{true}
use borrow.Author.Rules.{rules}
use lib.Dec.{eqb}
use Rattle.std.specs.Prelude.{◌↔◌, All}
use Rattle.elias_fano.proofs.Resuming.{zeros_tested}
use Rattle.elias_fano.proofs.builder.are_zeros.Goals as goal

pub returns : goal.returns
returns c =
    let h : (c.all.result ≡ true) ↔ All (λ x. eqb x 0 ≡ true) c.args.words.now = search rules in
    zeros_tested _ _ h
