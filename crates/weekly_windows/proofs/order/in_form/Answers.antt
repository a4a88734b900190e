-- `weekly_windows::order::in_form` meets its contract. Assumes nothing.
use borrow.Author.Tests.{not-true, not-false}
use mathlib.Core.Path.{◌≡◌, sym, ap, ◌∙◌}
use Prim.Native.Nat.{ℕ, ◌+◌, ◌*◌}
use native.Mathlib.Omega.{arith}
use lib.ListN.{drop}
use Rattle.weekly_windows.specs.Windows.{in_form}
use Rattle.weekly_windows.proofs.Pairs as pairs
use Rattle.weekly_windows.proofs.order.in_form.Goals as goal

pub returns-then-not-is_window : goal.returns-then-not-is_window
returns-then-not-is_window c =
    let l = c.loop-k in
    sym (l.invariant ∙ pairs.form_wrong _ (2 * l.k) (omega (arith, c.loop-k-test.true)) _ c.is_window.ensures (not-true _ c.if-not-is_window.true-raw))

pub loop-k-preserved : goal.loop-k-preserved
loop-k-preserved c =
    let l = c.loop-k in
    let e : 2 * l.k + 2 ≡ 2 * (l.k + 1) = omega arith in
    l.invariant ∙ pairs.form_right _ (2 * l.k) (omega (arith, c.loop-k-test.true)) _ c.is_window.ensures (not-false _ c.if-not-is_window.false-raw) ∙ ap (λ (j : ℕ). in_form (drop j c.args.words.now)) e

pub returns : goal.returns
returns c =
    let l = c.loop-k in
    pairs.form_left _ (2 * l.k) (omega (arith, c.loop-k-test.false)) (omega arith) (omega arith) ∙ sym l.invariant
