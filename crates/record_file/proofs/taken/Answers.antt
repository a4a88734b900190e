-- `record_file::taken` meets its contract. Assumes nothing.
use Rattle.std.proofs.Common.{ℕ, ◌<◌, [], sym, refl, subst, length-take-le}
use Rattle.record_file.proofs.Restoring as restoring
use Rattle.record_file.proofs.taken.Goals as goal

pub returns-then-n-lt-HEAD_LEN : goal.returns-then-n-lt-HEAD_LEN
returns-then-n-lt-HEAD_LEN c = restoring.too_few _ (subst (λ (k : ℕ). k < 5) (sym (length-take-le c.args.n c.args.words.now c.requires)) c.if-n-lt-HEAD_LEN.true)

pub returns-then-not-has_start : goal.returns-then-not-has_start
returns-then-not-has_start c =
    restoring.other_start c.args.words.now [] c.args.n 0 _ c.if-n-lt-HEAD_LEN.false c.requires c.builder_in-b.ensures
    (c.has_start.ensures.no c.if-not-has_start.true)

pub returns-then-is_right : goal.returns-then-is_right
returns-then-is_right c =
    restoring.held_stored c.args.words.now _ c.args.n _ _
    c.if-n-lt-HEAD_LEN.false
    c.requires
    c.builder_in-b.ensures
    refl
    (restoring.moved_front c.args.words.now _ c.fill.new.self c.args.n _ c.if-n-lt-HEAD_LEN.false c.requires c.copy_within.ensures.after)
    (c.has_start.ensures.yes c.if-not-has_start.false)
    (c.is_right.ensures.yes c.if-is_right.true)

pub returns-else-is_right : goal.returns-else-is_right
returns-else-is_right c =
    restoring.not_right c.args.words.now _ c.args.n _ _
    c.if-n-lt-HEAD_LEN.false
    c.requires
    c.builder_in-b.ensures
    refl
    (restoring.moved_front c.args.words.now _ c.fill.new.self c.args.n _ c.if-n-lt-HEAD_LEN.false c.requires c.copy_within.ensures.after)
    (c.is_right.ensures.no c.if-is_right.false)
