-- `elias_fano_words::check::check` meets its contract: each return is a case of what the checks decide.
-- Assumes nothing.
use borrow.Author.Tests.{not-true, not-false}
use mathlib.Core.Path.{sym, ◌∙◌}
use Rattle.elias_fano_words.proofs.Decided as decided
use Rattle.elias_fano_words.proofs.check.check.Goals as goal

pub slice_bounds-high-end : goal.slice_bounds-high-end
slice_bounds-high-end c =
    let given : decided.Given c.args.strict c.args.universe c.args.num_vals c.args.num_pushed c.args.low_len c.args.high_len c.words_for-split.result c.args.words.now = record { fit = λ i. (c.shared_slice_known-1.given i).fits; fits = c.ranges.universe.fits; ok = c.requires; is = c.words_for-split.ensures } in
    decided.high_size (given)

pub returns-then-not-clear_from : goal.returns-then-not-clear_from
returns-then-not-clear_from c =
    let given : decided.Given c.args.strict c.args.universe c.args.num_vals c.args.num_pushed c.args.low_len c.args.high_len c.words_for-split.result c.args.words.now = record { fit = λ i. (c.shared_slice_known-1.given i).fits; fits = c.ranges.universe.fits; ok = c.requires; is = c.words_for-split.ensures } in
    decided.not_clear (given) (c.clear_from.ensures.no (not-true c.clear_from.result c.if-not-clear_from.true-raw))

pub rank_words-requires : goal.rank_words-requires
rank_words-requires c =
    let given : decided.Given c.args.strict c.args.universe c.args.num_vals c.args.num_pushed c.args.low_len c.args.high_len c.words_for-split.result c.args.words.now = record { fit = λ i. (c.shared_slice_known-1.given i).fits; fits = c.ranges.universe.fits; ok = c.requires; is = c.words_for-split.ensures } in
    decided.high_room (given)

pub returns-then-rank_words-m : goal.returns-then-rank_words-m
returns-then-rank_words-m c =
    let given : decided.Given c.args.strict c.args.universe c.args.num_vals c.args.num_pushed c.args.low_len c.args.high_len c.words_for-split.result c.args.words.now = record { fit = λ i. (c.shared_slice_known-1.given i).fits; fits = c.ranges.universe.fits; ok = c.requires; is = c.words_for-split.ensures } in
    decided.not_ones (given) (λ e. c.if-rank_words-m.true (c.rank_words.ensures ∙ e))

pub overflow_mul-m : goal.overflow_mul-m
overflow_mul-m c =
    let given : decided.Given c.args.strict c.args.universe c.args.num_vals c.args.num_pushed c.args.low_len c.args.high_len c.words_for-split.result c.args.words.now = record { fit = λ i. (c.shared_slice_known-1.given i).fits; fits = c.ranges.universe.fits; ok = c.requires; is = c.words_for-split.ensures } in
    decided.low_fits (given)

pub returns-then-not-clear_from-2 : goal.returns-then-not-clear_from-2
returns-then-not-clear_from-2 c =
    let given : decided.Given c.args.strict c.args.universe c.args.num_vals c.args.num_pushed c.args.low_len c.args.high_len c.words_for-split.result c.args.words.now = record { fit = λ i. (c.shared_slice_known-1.given i).fits; fits = c.ranges.universe.fits; ok = c.requires; is = c.words_for-split.ensures } in
    decided.not_low (given) (c.clear_from-2.ensures.no (not-true c.clear_from-2.result c.if-not-clear_from-2.true-raw))

pub in_order-requires : goal.in_order-requires
in_order-requires c =
    let given : decided.Given c.args.strict c.args.universe c.args.num_vals c.args.num_pushed c.args.low_len c.args.high_len c.words_for-split.result c.args.words.now = record { fit = λ i. (c.shared_slice_known-1.given i).fits; fits = c.ranges.universe.fits; ok = c.requires; is = c.words_for-split.ensures } in
    (decided.narrow (given), decided.ones_held (given) (c.clear_from.ensures.yes (not-false c.clear_from.result c.if-not-clear_from.false-raw)) (sym c.rank_words.ensures ∙ c.if-rank_words-m.false))

pub returns-then-not-in_order : goal.returns-then-not-in_order
returns-then-not-in_order c =
    let given : decided.Given c.args.strict c.args.universe c.args.num_vals c.args.num_pushed c.args.low_len c.args.high_len c.words_for-split.result c.args.words.now = record { fit = λ i. (c.shared_slice_known-1.given i).fits; fits = c.ranges.universe.fits; ok = c.requires; is = c.words_for-split.ensures } in
    decided.not_order (given) (c.in_order.ensures.no (not-true c.in_order.result c.if-not-in_order.true-raw))

pub returns-then-m-eq0 : goal.returns-then-m-eq0
returns-then-m-eq0 c =
    let given : decided.Given c.args.strict c.args.universe c.args.num_vals c.args.num_pushed c.args.low_len c.args.high_len c.words_for-split.result c.args.words.now = record { fit = λ i. (c.shared_slice_known-1.given i).fits; fits = c.ranges.universe.fits; ok = c.requires; is = c.words_for-split.ensures } in
    decided.none (given) (c.clear_from.ensures.yes (not-false c.clear_from.result c.if-not-clear_from.false-raw)) (sym c.rank_words.ensures ∙ c.if-rank_words-m.false) (c.clear_from-2.ensures.yes (not-false c.clear_from-2.result c.if-not-clear_from-2.false-raw)) (c.in_order.ensures.yes (not-false c.in_order.result c.if-not-in_order.false-raw)) c.if-m-eq0.true

pub last_time-requires : goal.last_time-requires
last_time-requires c =
    let given : decided.Given c.args.strict c.args.universe c.args.num_vals c.args.num_pushed c.args.low_len c.args.high_len c.words_for-split.result c.args.words.now = record { fit = λ i. (c.shared_slice_known-1.given i).fits; fits = c.ranges.universe.fits; ok = c.requires; is = c.words_for-split.ensures } in
    decided.filled (given) (c.clear_from.ensures.yes (not-false c.clear_from.result c.if-not-clear_from.false-raw)) (sym c.rank_words.ensures ∙ c.if-rank_words-m.false) c.if-m-eq0.false

pub returns : goal.returns
returns c =
    let given : decided.Given c.args.strict c.args.universe c.args.num_vals c.args.num_pushed c.args.low_len c.args.high_len c.words_for-split.result c.args.words.now = record { fit = λ i. (c.shared_slice_known-1.given i).fits; fits = c.ranges.universe.fits; ok = c.requires; is = c.words_for-split.ensures } in
    decided.by_last (given) (c.clear_from.ensures.yes (not-false c.clear_from.result c.if-not-clear_from.false-raw)) (sym c.rank_words.ensures ∙ c.if-rank_words-m.false) (c.clear_from-2.ensures.yes (not-false c.clear_from-2.result c.if-not-clear_from-2.false-raw)) (c.in_order.ensures.yes (not-false c.in_order.result c.if-not-in_order.false-raw)) c.if-m-eq0.false c.last_time.result c.last_time.ensures
