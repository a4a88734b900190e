-- `elias_fano_queries::rank::count_before` meets its contract.
-- Assumes nothing.
use mathlib.Core.Path.{◌≡◌, sym, ap, ◌∙◌}
use Prim.Native.Nat.{ℕ, ◌+◌, ◌-◌, ◌*◌, ◌^◌}
use native.Mathlib.Omega.{arith}
use Rattle.elias_fano.specs.Accept.{times}
use Rattle.elias_fano.specs.Ask.{below}
use Rattle.elias_fano_queries.proofs.Below as below-law
use Rattle.elias_fano_queries.proofs.rank.count_before.Goals as goal

pub returns-then-h-eq0 : goal.returns-then-h-eq0
returns-then-h-eq0 c = sym (ap (λ (h : ℕ). below (h * 2 ^ c.args.image.now.parts.low_len) (times c.args.image.now.words.now)) c.if-h-eq0.true ∙ below-law.below_nothing c.args.image.now.parts.low_len (times c.args.image.now.words.now))

pub count_upto-requires : goal.count_upto-requires
count_upto-requires c = (c.requires.0, omega (arith, c.requires.1))

pub returns : goal.returns
returns c = c.count_upto.ensures ∙ ap (λ (h : ℕ). below (h * 2 ^ c.args.image.now.parts.low_len) (times c.args.image.now.words.now)) (let d : c.args.h - 1 + 1 ≡ c.args.h = omega (arith, c.if-h-eq0.false) in d)
