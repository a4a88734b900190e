-- `elias_fano_model::perform` meets its contract.
-- Assumes nothing.
use mathlib.Core.Path.{◌≡◌, sym, ap, ◌∙◌}
use mathlib.Core.List.{List}
use Prim.Native.Nat.{ℕ, ◌+◌, ◌*◌, ◌/◌}
use native.Mathlib.Omega.{arith}
use lib.ListN.{length, drop}
use Rattle.elias_fano_model.specs.Run.{decode, left, ended}
use Rattle.elias_fano_model.specs.Going.{go_on}
use Rattle.elias_fano_model.proofs.Running as running
use Rattle.elias_fano_model.proofs.perform.Goals as goal

pub returns-then-is_last : goal.returns-then-is_last
returns-then-is_last c =
    let k = c.loop-k.k in
    let e : k + 2 ≡ k + 1 + 1 = omega arith in
    ap (λ (n : ℕ). left (ended c.call-s.result.builder n) c.call-s.new.buffer c.file-in-loop-k.new.answers) e
    ∙ ap (λ (a : List ℕ). left (ended c.call-s.result.builder (k + 1 + 1)) c.call-s.new.buffer a) c.file-in-loop-k.ensures
    ∙ running.turn_last c.loop-k.b c.call-s.result.builder c.loop-k.buffer c.call-s.new.buffer (k + 1) _ c.loop-k.answers c.args.calls.now (2 * k) (omega (arith, c.loop-k-test.true)) c.call-s.ensures (sym c.is_last.ensures ∙ c.if-is_last.true)
    ∙ c.loop-k.invariant.2 ∙ ap (λ (a : List ℕ). go_on c.args.first c.args.buffer.now 1 a (decode c.args.calls.now)) c.file.ensures

pub loop-k-preserved : goal.loop-k-preserved
loop-k-preserved c =
    let k = c.loop-k.k in
    let e : 2 * (k + 1) ≡ 2 * k + 2 = omega arith in (
      c.call-s.auto.buffer ∙ c.loop-k.invariant.0,
      ap length c.file-in-loop-k.ensures ∙ running.length-filed c.loop-k.answers (k + 1) _ ∙ c.loop-k.invariant.1,
      ap (λ (i : ℕ). go_on c.call-s.result.builder c.call-s.new.buffer (k + 1 + 1) c.file-in-loop-k.new.answers (decode (drop i c.args.calls.now))) e
          ∙ ap (λ (a : List ℕ). go_on c.call-s.result.builder c.call-s.new.buffer (k + 1 + 1) a (decode (drop (2 * k + 2) c.args.calls.now))) c.file-in-loop-k.ensures
          ∙ running.turn_on c.loop-k.b c.call-s.result.builder c.loop-k.buffer c.call-s.new.buffer (k + 1) _ c.loop-k.answers c.args.calls.now (2 * k) (omega (arith, c.loop-k-test.true)) c.call-s.ensures (sym c.is_last.ensures ∙ c.if-is_last.false)
          ∙ c.loop-k.invariant.2,
    )

pub returns : goal.returns
returns c =
    let k = c.loop-k.k in
    let e : length c.args.calls.now / 2 + 1 ≡ k + 1 = omega (arith, c.loop-k-test.false, c.loop-k.auto.k-end) in
    ap (λ (n : ℕ). left (ended c.loop-k.b n) c.loop-k.buffer c.loop-k.answers) e
    ∙ running.turn_none c.loop-k.b c.loop-k.buffer (k + 1) c.loop-k.answers c.args.calls.now (2 * k) (omega (arith, c.loop-k-test.false))
    ∙ c.loop-k.invariant.2 ∙ ap (λ (a : List ℕ). go_on c.args.first c.args.buffer.now 1 a (decode c.args.calls.now)) c.file.ensures
