-- `elias_fano_words::sizes::limit_of` meets its contract.
-- Assumes nothing.
use native.Mathlib.Omega.{arith}
use Rattle.elias_fano_words.specs.Sizes.{index_len, overflow_limit}
use Rattle.elias_fano_words.proofs.Limit.{if_le, limit_is}
use Rattle.elias_fano_words.proofs.sizes.limit_of.Goals as goal

pub overflow_add-result-2 : goal.overflow_add-result-2
overflow_add-result-2 c =
    let a = c.args in
    let z = if_le a.rank (index_len a.s.high_len (overflow_limit a.s.high_len)) in
    record { fits = omega (arith, z, c.index_len_if.ensures, c.index_len.ensures, c.requires) }

pub returns : goal.returns
returns c =
    let a = c.args in
    limit_is a.s a.n a.rank _ _ c.index_len.ensures c.index_len_if.ensures
