-- `elias_fano_queries::rank::rank_from` meets its contract.
-- Assumes nothing.
use native.Mathlib.Nat.{le_refl, le_of_lt}
use native.Mathlib.Omega.{arith}
use lib.Pow.{shr_mono}
use Rattle.elias_fano.proofs.Selecting as selecting
use Rattle.elias_fano_queries.proofs.Opened as opened
use Rattle.elias_fano_queries.proofs.Ranking as ranking
use Rattle.elias_fano_queries.proofs.rank.rank_from.Goals as goal

pub overflow_shr-h : goal.overflow_shr-h
overflow_shr-h c = selecting.low_small c.args.image.now.words.now c.args.image.now.ok c.args.image.now.parts c.args.image.now.right

pub overflow_add-h : goal.overflow_add-h
overflow_add-h c = let a = ranking.place_lt c.args.image.now.words.now c.args.image.now.parts (record { ok = c.args.image.now.ok; parts = c.args.image.now.right }) c.args.val c.args.end c.requires.2 c.requires.1 c.args.end (le_refl c.args.end) in omega (arith, opened.high_small c.args.image.now.words.now c.args.image.now.ok c.args.image.now.parts c.args.image.now.right)

pub is_crowded-requires : goal.is_crowded-requires
is_crowded-requires c = (ranking.place_lt c.args.image.now.words.now c.args.image.now.parts (record { ok = c.args.image.now.ok; parts = c.args.image.now.right }) c.args.val c.args.end c.requires.2 c.requires.1 c.args.end (le_refl c.args.end))

pub count_before-first-requires : goal.count_before-first-requires
count_before-first-requires c = (c.requires.0, shr_mono c.args.image.now.parts.low_len (le_of_lt c.requires.1))

pub halve_bucket-requires : goal.halve_bucket-requires
halve_bucket-requires c = (c.count_before-first.ensures, c.requires.2)

pub returns-then-is_crowded : goal.returns-then-is_crowded
returns-then-is_crowded c = c.halve_bucket.ensures

pub walk_back-requires : goal.walk_back-requires
walk_back-requires c = (c.requires.1, c.requires.2)

pub returns : goal.returns
returns c = c.walk_back.ensures
