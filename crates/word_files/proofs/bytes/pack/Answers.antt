-- `word_files::bytes::pack` meets its contract. Assumes nothing.
use Rattle.std.proofs.Common.{ℕ, List, ◌≡◌, ◌+◌, ◌*◌, ◌-◌, drop, take, arith, sym, ap, ◌∙◌}
use Rattle.word_files.proofs.Packing.{pack_more, pack_done, packed}
use Rattle.word_files.specs.Bytes.{bytes_of}
use lib.Seq.{sets}
use Rattle.word_files.proofs.bytes.pack.Goals as goal

pub loop-i-init : goal.loop-i-init
loop-i-init c = ap (λ (m : ℕ). sets c.args.bytes.now 0 (bytes_of (take m c.args.words.now))) (let d : (m : ℕ) → m ≡ m - 0 = λ m. omega arith in d c.min-n.result)

pub loop-i-preserved : goal.loop-i-preserved
loop-i-preserved c =
    let ws = c.args.words.now in
    let l = c.loop-i in
    let n = c.min-n.result in
    let t = c.loop-i-test.true in
    l.invariant
    ∙ pack_more ws n l.i l.bytes t (omega (arith, t, c.min-n.ensures))
    ∙ ap (λ (o : List ℕ). sets o (8 * (l.i + 1)) (bytes_of (take (n - (l.i + 1)) (drop (l.i + 1) ws)))) (sym c.put_word.ensures)

pub returns : goal.returns
returns c =
    let a = c.args in
    let l = c.loop-i in
    let n = c.min-n in
    packed a.words.now a.bytes.now l.bytes n.result n.ensures (sym (l.invariant ∙ pack_done a.words.now n.result l.i l.bytes c.loop-i-test.false))
