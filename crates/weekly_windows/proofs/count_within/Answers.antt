-- `weekly_windows::count_within` meets its contract: the windows in order count what those handed in do. Assumes nothing.
use mathlib.Core.Path.{ap, ◌∙◌}
use mathlib.Core.List.{List}
use Prim.Native.Nat.{ℕ}
use lib.ListN.{drop}
use Rattle.elias_fano.specs.Accept.{times}
use Rattle.weekly_windows.specs.Windows.{count_in}
use Rattle.weekly_windows.proofs.Counting as counting
use Rattle.weekly_windows.proofs.count_within.Goals as goal

pub returns : goal.returns
returns c =
    let o = c.before.before.before.before.before.before in
    let s = o.before.before.before.before in
    let T = drop s.args.from.number (times s.args.image.now.words.now) in
    c.count_on.ensures ∙ ap (λ (l : List ℕ). count_in l 0 s.args.e T) o.order-n.ensures.1 ∙ counting.count-joined s.args.windows.now s.args.e T
