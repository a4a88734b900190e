-- `elias_fano_words::sizes::image_len` meets its contract.
-- Assumes nothing.
use Prim.Native.Nat.{◌-◌}
use native.Mathlib.Omega.{arith}
use Rattle.elias_fano_words.specs.Sizes.{index_len}
use Rattle.elias_fano_words.proofs.Limit.{if_le, image_len_is}
use Rattle.elias_fano_words.proofs.sizes.image_len.Goals as goal

pub overflow_add-result-3 : goal.overflow_add-result-3
overflow_add-result-3 c =
    let a = c.args in
    let z = if_le a.rank (index_len (a.s.high_len - a.m) a.zeros) in
    record { fits = omega (arith, z, c.index_len_if.ensures, c.index_len.ensures, c.words_for.ensures, c.requires) }

pub returns : goal.returns
returns c =
    let a = c.args in
    image_len_is a.s a.m a.rank a.ones a.zeros _ _ _ c.words_for.ensures c.index_len.ensures c.index_len_if.ensures
