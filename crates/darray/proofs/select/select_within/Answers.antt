-- `darray::select::select_within` meets its contract.
-- Assumes nothing.
use Rattle.std.proofs.Common.{arith, sym, ◌∙◌}
use Rattle.darray.proofs.Through as through
use Rattle.darray.proofs.select.select_within.Goals as goal

pub bounds-index-block : goal.bounds-index-block
bounds-index-block c = through.entry_lt c.args.words.now c.args.len c.args.over_one c.args.index.now c.args.positions c.requires.0 c.args.k c.requires.1

pub read_entry-requires : goal.read_entry-requires
read_entry-requires c = through.readable c.args.words.now c.args.len c.args.over_one c.args.index.now c.args.positions c.requires.0 c.args.k c.requires.1

pub offset_bounds-index-at : goal.offset_bounds-index-at
offset_bounds-index-at c = let l = through.overflow_lt c.args.words.now c.args.len c.args.over_one c.args.index.now c.args.positions c.requires.0 c.args.k c.requires.1 c.in-Overflow.first (sym c.read_entry.ensures ∙ c.in-Overflow.is) in omega arith

pub bounds-index-at : goal.bounds-index-at
bounds-index-at c = let l = through.overflow_lt c.args.words.now c.args.len c.args.over_one c.args.index.now c.args.positions c.requires.0 c.args.k c.requires.1 c.in-Overflow.first (sym c.read_entry.ensures ∙ c.in-Overflow.is) in omega arith

pub returns-in-Overflow : goal.returns-in-Overflow
returns-in-Overflow c = sym (through.overflow_is c.args.words.now c.args.len c.args.over_one c.args.index.now c.args.positions c.requires.0 c.args.k c.requires.1 c.in-Overflow.first (sym c.read_entry.ensures ∙ c.in-Overflow.is) _ (omega arith))

pub distance-requires : goal.distance-requires
distance-requires c = let l = through.lane_lt c.args.words.now c.args.len c.args.over_one c.args.index.now c.args.positions c.requires.0 c.args.k c.requires.1 in omega arith

pub returns-then-rest-eq0 : goal.returns-then-rest-eq0
returns-then-rest-eq0 c = sym (through.exact c.args.words.now c.args.len c.args.over_one c.args.index.now c.args.positions c.requires.0 c.args.k c.requires.1 c.div_ceil-entries.result (omega arith) c.in-First.first c.distance.result (sym c.read_entry.ensures ∙ c.in-First.is) c.distance.ensures c.if-rest-eq0.true)

pub find_within-requires : goal.find_within-requires
find_within-requires c = (through.findable c.args.words.now c.args.len c.args.over_one c.args.index.now c.args.positions c.requires.0 c.args.k c.requires.1 c.div_ceil-entries.result (omega arith) c.in-First.first c.distance.result (sym c.read_entry.ensures ∙ c.in-First.is) c.distance.ensures c.words_for.result c.words_for.ensures, through.enough c.args.words.now c.args.len c.args.over_one c.args.index.now c.args.positions c.requires.0 c.args.k c.requires.1 c.div_ceil-entries.result (omega arith) c.in-First.first c.distance.result (sym c.read_entry.ensures ∙ c.in-First.is) c.distance.ensures c.words_for.result c.words_for.ensures)

pub returns-else-rest-eq0 : goal.returns-else-rest-eq0
returns-else-rest-eq0 c = sym (through.searched c.args.words.now c.args.len c.args.over_one c.args.index.now c.args.positions c.requires.0 c.args.k c.requires.1 c.div_ceil-entries.result (omega arith) c.in-First.first c.distance.result (sym c.read_entry.ensures ∙ c.in-First.is) c.distance.ensures c.words_for.result c.words_for.ensures) ∙ c.find_within.ensures
