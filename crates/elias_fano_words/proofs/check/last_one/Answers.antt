-- `elias_fano_words::check::last_one` meets its contract.
-- Assumes nothing.
use Rattle.std.proofs.Common.{arith, sym, ◌∙◌}
use Rattle.elias_fano_words.proofs.LastTime as last-time
use Rattle.elias_fano_words.proofs.check.last_one.Goals as goal

pub overflow_sub-i : goal.overflow_sub-i
overflow_sub-i c = last-time.used_pos c.args.words.now (λ i. (c.type_inv.words i).fits) c.requires.0 c.last_used-i.result c.last_used-i.ensures

pub bounds-words-i : goal.bounds-words-i
bounds-words-i c = omega (arith, last-time.used_pos c.args.words.now (λ i. (c.type_inv.words i).fits) c.requires.0 c.last_used-i.result c.last_used-i.ensures, c.last_used-i.ensures.upto)

pub unwrap-requires : goal.unwrap-requires
unwrap-requires c = last-time.last_there c.args.words.now (λ i. (c.type_inv.words i).fits) c.requires.0 c.last_used-i.result c.last_used-i.ensures c.msb.result c.msb.ensures

pub overflow_add-result : goal.overflow_add-result
overflow_add-result c =
    omega (arith, last-time.last_lt c.args.words.now (λ i. (c.type_inv.words i).fits) c.requires.0 c.last_used-i.result c.last_used-i.ensures c.unwrap.result (sym c.unwrap.ensures ∙ c.msb.ensures), last-time.used_pos c.args.words.now (λ i. (c.type_inv.words i).fits) c.requires.0 c.last_used-i.result c.last_used-i.ensures, c.last_used-i.ensures.upto, c.requires.1)

pub returns : goal.returns
returns c = last-time.last_in c.args.words.now (λ i. (c.type_inv.words i).fits) c.requires.0 c.last_used-i.result c.last_used-i.ensures c.unwrap.result (sym c.unwrap.ensures ∙ c.msb.ensures)
